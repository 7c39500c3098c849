use Rattle.std.proofs.Common.{◌≡◌, map, drop, true, false}
use Rattle.cx_ctree.specs.Decls.{tag_tree}
use Rattle.cx_cindex.specs.Sets.{with_numbers}
use Rattle.cx_cindex.specs.UnitNames.{tags_of}
use Rattle.cx_cindex.proofs.find.add_tags.Given as goal

abbrev pub invariant-loop-tag : goal.invariant-loop-tag
invariant-loop-tag l = record {
  structs : with_numbers l.structs (tags_of false (map tag_tree (drop l.tag-index l.tags))) ≡ with_numbers l.fn.structs (tags_of false (map tag_tree l.tags));
  unions : with_numbers l.unions (tags_of true (map tag_tree (drop l.tag-index l.tags))) ≡ with_numbers l.fn.unions (tags_of true (map tag_tree l.tags));
}
