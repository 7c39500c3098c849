use Rattle.std.proofs.Common.{true, false}
use Rattle.cx_cindex.proofs.Numbers.{tags_step}
use Rattle.cx_cindex.proofs.find.add_tags.Goals as goal

pub loop-tag-preserved : goal.loop-tag-preserved
loop-tag-preserved c = record {
  structs = tags_step false c.loop-tag.structs c.add_tag.new.structs _ c.args.tags.now c.loop-tag.tag-index c.tag-item.result c.loop-tag-test.true c.tag-item.is c.in_ok-add_tag.ensures.structs c.loop-tag.invariant.structs;
  unions = tags_step true c.loop-tag.unions c.add_tag.new.unions _ c.args.tags.now c.loop-tag.tag-index c.tag-item.result c.loop-tag-test.true c.tag-item.is c.in_ok-add_tag.ensures.unions c.loop-tag.invariant.unions;
}
