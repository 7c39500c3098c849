use Rattle.std.proofs.Common.{◌≡◌, ◌+◌, drop, map}
use Rattle.std.specs.Prelude.{◌||◌, option_map}
use Rattle.std.specs.Option.{unwrap_or}
use Rattle.cx_ctree.specs.Types.{type_tree}
use Rattle.cx_ctree.specs.Decls.{member_tree}
use Rattle.cx_tsyn.specs.Types.{stype_trees, field_trees, branch_trees}
use Rattle.cx_tscope.specs.Faults.{first}
use Rattle.cx_tmeasure.specs.Sizes.{field_cells, some_field_has_tail, branch_cells, some_branch_has_tail, first_size}
use Rattle.cx_tmeasure.specs.BadTypes.{bad_in_types, bad_in_fields, bad_in_branches}
use Rattle.cx_tmeasure.specs.Judged.{amount_types, plus}
use Rattle.cx_tmeasure.specs.Views.{known_of}
use Rattle.cx_tmeasure.proofs.measure.«+judged».Given as goal

abbrev pub invariant-judged_types-loop-part : goal.invariant-judged_types-loop-part
invariant-judged_types-loop-part l = record {
  found : first (bad_in_types (known_of l.known) (stype_trees (drop l.part-index l.parts))) ≡ first (bad_in_types (known_of l.known) (stype_trees l.parts));
  whole : plus l.all (amount_types (known_of l.known) (stype_trees (drop l.part-index l.parts))) ≡ amount_types (known_of l.known) (stype_trees l.parts);
}

abbrev pub invariant-judged_fields-loop-field : goal.invariant-judged_fields-loop-field
invariant-judged_fields-loop-field l = record {
  found : first (bad_in_fields (known_of l.known) l.union_ (map member_tree l.left) (field_trees (drop l.field-index l.fields))) ≡ first (bad_in_fields (known_of l.known) l.union_ (map member_tree l.members) (field_trees l.fields));
  cells : l.all.cells + field_cells (field_trees (drop l.field-index l.fields)) ≡ field_cells (field_trees l.fields);
  tail : l.all.tail || some_field_has_tail (field_trees (drop l.field-index l.fields)) ≡ some_field_has_tail (field_trees l.fields);
}

abbrev pub invariant-judged_branches-loop-branch : goal.invariant-judged_branches-loop-branch
invariant-judged_branches-loop-branch l = record {
  bytes : unwrap_or l.bytes (first_size (known_of l.known) (option_map (λ t. type_tree t.now) l.m) (branch_trees (drop l.branch-index l.branches))) ≡ first_size (known_of l.known) (option_map (λ t. type_tree t.now) l.m) (branch_trees l.branches);
  found : first (bad_in_branches (known_of l.known) (option_map (λ t. type_tree t.now) l.m) (first_size (known_of l.known) (option_map (λ t. type_tree t.now) l.m) (branch_trees l.branches)) (branch_trees (drop l.branch-index l.branches)))
      ≡ first (bad_in_branches (known_of l.known) (option_map (λ t. type_tree t.now) l.m) (first_size (known_of l.known) (option_map (λ t. type_tree t.now) l.m) (branch_trees l.branches)) (branch_trees l.branches));
  cells : l.all.cells + branch_cells (branch_trees (drop l.branch-index l.branches)) ≡ branch_cells (branch_trees l.branches);
  tail : l.all.tail || some_branch_has_tail (branch_trees (drop l.branch-index l.branches)) ≡ some_branch_has_tail (branch_trees l.branches);
}
