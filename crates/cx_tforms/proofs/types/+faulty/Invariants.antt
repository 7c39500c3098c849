use Rattle.std.proofs.Common.{◌≡◌, drop}
use Rattle.cx_tsyn.specs.Types.{stype_trees, field_trees, branch_trees}
use Rattle.cx_tscope.specs.Faults.{first}
use Rattle.cx_tforms.specs.Faulty.{faulty_in_types, faulty_in_fields, faulty_in_branches}
use Rattle.cx_tforms.proofs.types.«+faulty».Given as goal

abbrev pub invariant-faulty_in_types-loop-part : goal.invariant-faulty_in_types-loop-part
invariant-faulty_in_types-loop-part l = first (faulty_in_types (stype_trees (drop l.part-index l.parts))) ≡ first (faulty_in_types (stype_trees l.parts))

abbrev pub invariant-faulty_in_fields-loop-field : goal.invariant-faulty_in_fields-loop-field
invariant-faulty_in_fields-loop-field l = first (faulty_in_fields (field_trees (drop l.field-index l.fields))) ≡ first (faulty_in_fields (field_trees l.fields))

abbrev pub invariant-faulty_in_branches-loop-branch : goal.invariant-faulty_in_branches-loop-branch
invariant-faulty_in_branches-loop-branch l = first (faulty_in_branches (branch_trees (drop l.branch-index l.branches))) ≡ first (faulty_in_branches (branch_trees l.branches))
