use Rattle.std.proofs.Common.{◌≡◌, drop}
use Rattle.std.specs.Prelude.{◌||◌}
use Rattle.cx_tsyn.specs.Types.{stype_trees, field_trees, branch_trees}
use Rattle.cx_tarity.specs.Counts.{many_branches}
use Rattle.cx_tarity.specs.Capped.{counted_types, counted_fields, plus, nothing}
use Rattle.cx_tarity.proofs.count.«+counted».Given as goal

abbrev pub invariant-counted_types-loop-part : goal.invariant-counted_types-loop-part
invariant-counted_types-loop-part l = record {
  whole : plus l.all (counted_types (stype_trees (drop l.part-index l.parts))) ≡ counted_types (stype_trees l.parts);
  capped : plus l.all nothing ≡ l.all;
}

abbrev pub invariant-counted_fields-loop-field : goal.invariant-counted_fields-loop-field
invariant-counted_fields-loop-field l = record {
  whole : plus l.all (counted_fields (field_trees (drop l.field-index l.fields))) ≡ counted_fields (field_trees l.fields);
  capped : plus l.all nothing ≡ l.all;
}

abbrev pub invariant-counted_branches-loop-branch : goal.invariant-counted_branches-loop-branch
invariant-counted_branches-loop-branch l = l.over || many_branches (branch_trees (drop l.branch-index l.branches)) ≡ many_branches (branch_trees l.branches)
