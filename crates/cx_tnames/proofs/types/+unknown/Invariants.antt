use Rattle.std.proofs.Common.{◌≡◌, drop}
use Rattle.cx_tsyn.specs.Words.{word_tree}
use Rattle.cx_tsyn.specs.Types.{stype_trees, field_trees, branch_trees}
use Rattle.cx_tscope.specs.Faults.{first}
use Rattle.cx_tnames.specs.Known.{known_of}
use Rattle.cx_tnames.specs.Unknown.{unknown_in_types, unknown_in_fields, unknown_in_branches}
use Rattle.cx_tnames.proofs.types.«+unknown».Given as goal

abbrev pub invariant-unknown_in_types-loop-part : goal.invariant-unknown_in_types-loop-part
invariant-unknown_in_types-loop-part l = record {
  found : first (unknown_in_types (known_of l.known) l.fn.names (stype_trees (drop l.part-index l.parts))) ≡ first (unknown_in_types (known_of l.known) l.fn.names (stype_trees l.parts));
  kept : l.names ≡ l.fn.names;
}

abbrev pub invariant-unknown_in_fields-loop-field : goal.invariant-unknown_in_fields-loop-field
invariant-unknown_in_fields-loop-field l = record {
  found : first (unknown_in_fields (known_of l.known) l.fn.names l.union_ (word_tree l.tag) (field_trees (drop l.field-index l.fields))) ≡ first (unknown_in_fields (known_of l.known) l.fn.names l.union_ (word_tree l.tag) (field_trees l.fields));
  kept : l.names ≡ l.fn.names;
}

abbrev pub invariant-unknown_in_branches-loop-branch : goal.invariant-unknown_in_branches-loop-branch
invariant-unknown_in_branches-loop-branch l = record {
  found : first (unknown_in_branches (known_of l.known) l.fn.names (branch_trees (drop l.branch-index l.branches))) ≡ first (unknown_in_branches (known_of l.known) l.fn.names (branch_trees l.branches));
  kept : l.names ≡ l.fn.names;
}
