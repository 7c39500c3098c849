use Rattle.std.proofs.Common.{◌≡◌, drop}
use Rattle.cx_tsyn.specs.Types.{stype_trees, field_trees, branch_trees}
use Rattle.cx_tscope.specs.Faults.{first}
use Rattle.cx_tdoubled.specs.Doubled.{doubled_in_types, doubled_in_fields, doubled_in_branches}
use Rattle.cx_tdoubled.proofs.types.«+doubled».Given as goal

abbrev pub invariant-doubled_in_types-loop-part : goal.invariant-doubled_in_types-loop-part
invariant-doubled_in_types-loop-part l = record {
  found : first (doubled_in_types l.fn.names (stype_trees (drop l.part-index l.parts))) ≡ first (doubled_in_types l.fn.names (stype_trees l.parts));
  kept : l.names ≡ l.fn.names;
}

abbrev pub invariant-doubled_in_fields-loop-field : goal.invariant-doubled_in_fields-loop-field
invariant-doubled_in_fields-loop-field l = record {
  found : first (doubled_in_fields l.fn.names (field_trees (drop l.field-index l.fields))) ≡ first (doubled_in_fields l.fn.names (field_trees l.fields));
  kept : l.names ≡ l.fn.names;
}

abbrev pub invariant-doubled_in_branches-loop-branch : goal.invariant-doubled_in_branches-loop-branch
invariant-doubled_in_branches-loop-branch l = record {
  found : first (doubled_in_branches l.fn.names (branch_trees (drop l.branch-index l.branches))) ≡ first (doubled_in_branches l.fn.names (branch_trees l.branches));
  kept : l.names ≡ l.fn.names;
}
