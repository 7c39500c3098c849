use Rattle.std.proofs.Common.{◌≡◌, map, drop}
use Rattle.std.specs.Prelude.{true, false}
use Rattle.cx_ctree.specs.Decls.{tag_tree}
use Rattle.cx_ctable.specs.Firsts.{with_firsts}
use Rattle.cx_ctable.specs.Tables.{tags_from}
use Rattle.cx_ctable.proofs.fill.add_tags.Given as goal

abbrev pub invariant-loop-at : goal.invariant-loop-at
invariant-loop-at l = record {
  structs : with_firsts l.structs.entries (tags_from false l.at (map tag_tree (drop l.at l.tags))) ≡ with_firsts l.fn.structs.entries (tags_from false 0 (map tag_tree l.tags));
  unions : with_firsts l.unions.entries (tags_from true l.at (map tag_tree (drop l.at l.tags))) ≡ with_firsts l.fn.unions.entries (tags_from true 0 (map tag_tree l.tags));
}
