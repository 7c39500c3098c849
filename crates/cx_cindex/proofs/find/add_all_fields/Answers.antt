use Rattle.std.proofs.Common.{true, false}
use Rattle.cx_cindex.proofs.Numbers.{fields_step}
use Rattle.cx_cindex.proofs.find.add_all_fields.Goals as goal

pub loop-tag-preserved : goal.loop-tag-preserved
loop-tag-preserved c = record {
  structs = fields_step false c.loop-tag.struct_fields c.add_fields.new.struct_fields _ c.args.tags.now c.loop-tag.tag-index c.tag-item.result c.loop-tag-test.true c.tag-item.is c.in_ok-add_fields.ensures.structs c.loop-tag.invariant.structs;
  unions = fields_step true c.loop-tag.union_fields c.add_fields.new.union_fields _ c.args.tags.now c.loop-tag.tag-index c.tag-item.result c.loop-tag-test.true c.tag-item.is c.in_ok-add_fields.ensures.unions c.loop-tag.invariant.unions;
}
