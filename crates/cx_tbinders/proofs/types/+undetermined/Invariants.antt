use Rattle.std.proofs.Common.{◌≡◌, drop}
use Rattle.cx_tsyn.specs.Types.{stype_trees, field_trees, branch_trees}
use Rattle.cx_tscope.specs.Faults.{first}
use Rattle.cx_tbinders.specs.Undetermined.{undetermined_in_types, undetermined_in_fields, undetermined_in_branches}
use Rattle.cx_tbinders.proofs.types.«+undetermined».Given as goal

abbrev pub invariant-undetermined_in_types-loop-part : goal.invariant-undetermined_in_types-loop-part
invariant-undetermined_in_types-loop-part l = record {
  found : first (undetermined_in_types l.fn.names l.place l.met (stype_trees (drop l.part-index l.parts))) ≡ first (undetermined_in_types l.fn.names l.place l.seen (stype_trees l.parts));
  kept : l.names ≡ l.fn.names;
  left : l.after ≡ drop l.part-index l.parts;
}

abbrev pub invariant-undetermined_in_fields-loop-field : goal.invariant-undetermined_in_fields-loop-field
invariant-undetermined_in_fields-loop-field l = record {
  found : first (undetermined_in_fields l.fn.names l.place l.met (field_trees (drop l.field-index l.fields))) ≡ first (undetermined_in_fields l.fn.names l.place l.seen (field_trees l.fields));
  kept : l.names ≡ l.fn.names;
  left : l.after ≡ drop l.field-index l.fields;
}

abbrev pub invariant-undetermined_in_branches-loop-branch : goal.invariant-undetermined_in_branches-loop-branch
invariant-undetermined_in_branches-loop-branch l = record {
  found : first (undetermined_in_branches l.fn.names l.place (branch_trees (drop l.branch-index l.branches))) ≡ first (undetermined_in_branches l.fn.names l.place (branch_trees l.branches));
  kept : l.names ≡ l.fn.names;
}
