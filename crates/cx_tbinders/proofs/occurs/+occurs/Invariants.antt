use Rattle.std.proofs.Common.{◌≡◌, drop}
use Rattle.cx_tsyn.specs.Types.{stype_trees, field_trees, branch_trees}
use Rattle.cx_tbinders.specs.Uses.{use_in_types, use_in_fields, use_in_branches}
use Rattle.cx_tbinders.proofs.occurs.«+occurs».Given as goal

abbrev pub invariant-use_in_types-loop-part : goal.invariant-use_in_types-loop-part
invariant-use_in_types-loop-part l = use_in_types l.text (stype_trees (drop l.part-index l.parts)) ≡ use_in_types l.text (stype_trees l.parts)

abbrev pub invariant-use_in_fields-loop-field : goal.invariant-use_in_fields-loop-field
invariant-use_in_fields-loop-field l = use_in_fields l.text (field_trees (drop l.field-index l.fields)) ≡ use_in_fields l.text (field_trees l.fields)

abbrev pub invariant-use_in_branches-loop-branch : goal.invariant-use_in_branches-loop-branch
invariant-use_in_branches-loop-branch l = use_in_branches l.text (branch_trees (drop l.branch-index l.branches)) ≡ use_in_branches l.text (branch_trees l.branches)
