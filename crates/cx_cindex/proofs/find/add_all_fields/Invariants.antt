use Rattle.std.proofs.Common.{◌≡◌, map, drop, true, false}
use Rattle.cx_ctree.specs.Decls.{tag_tree}
use Rattle.cx_cindex.specs.Sets.{with_fields}
use Rattle.cx_cindex.specs.UnitNames.{all_fields_of}
use Rattle.cx_cindex.proofs.find.add_all_fields.Given as goal

abbrev pub invariant-loop-tag : goal.invariant-loop-tag
invariant-loop-tag l = record {
  structs : with_fields l.struct_fields (all_fields_of false (map tag_tree (drop l.tag-index l.tags))) ≡ with_fields l.fn.struct_fields (all_fields_of false (map tag_tree l.tags));
  unions : with_fields l.union_fields (all_fields_of true (map tag_tree (drop l.tag-index l.tags))) ≡ with_fields l.fn.union_fields (all_fields_of true (map tag_tree l.tags));
}
