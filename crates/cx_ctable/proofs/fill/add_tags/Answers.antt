use Rattle.std.proofs.Common.{true, false}
use Rattle.cx_ctable.proofs.Steps.{tags_step}
use Rattle.cx_ctable.proofs.fill.add_tags.Goals as goal

pub loop-at-preserved : goal.loop-at-preserved
loop-at-preserved c = record {
  structs = tags_step false _ _ _ c.args.tags.now c.loop-at.at c.index-tags-at.result c.loop-at-test.true c.index-tags-at.is c.in_ok-add_tag.ensures.structs c.loop-at.invariant.structs;
  unions = tags_step true _ _ _ c.args.tags.now c.loop-at.at c.index-tags-at.result c.loop-at-test.true c.index-tags-at.is c.in_ok-add_tag.ensures.unions c.loop-at.invariant.unions;
}
