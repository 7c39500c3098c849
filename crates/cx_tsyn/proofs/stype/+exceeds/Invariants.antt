use Rattle.std.proofs.Common.{◌≡◌, max, drop}
use Rattle.cx_tsyn.specs.Types.{stype_trees, field_trees, branch_trees}
use Rattle.cx_tsyn.specs.Levels.{most_of_types, most_of_fields, most_of_branches}
use Rattle.cx_tsyn.proofs.stype.«+exceeds».Given as goal

-- past the limit the items to come are as deep as all
abbrev pub invariant-some_part_exceeds-loop-part : goal.invariant-some_part_exceeds-loop-part
invariant-some_part_exceeds-loop-part l =
    max l.levels (most_of_types (stype_trees (drop l.part-index l.parts))) ≡ max l.levels (most_of_types (stype_trees l.parts))

abbrev pub invariant-some_field_exceeds-loop-field : goal.invariant-some_field_exceeds-loop-field
invariant-some_field_exceeds-loop-field l =
    max l.levels (most_of_fields (field_trees (drop l.field-index l.fields))) ≡ max l.levels (most_of_fields (field_trees l.fields))

abbrev pub invariant-some_branch_exceeds-loop-branch : goal.invariant-some_branch_exceeds-loop-branch
invariant-some_branch_exceeds-loop-branch l =
    max l.levels (most_of_branches (branch_trees (drop l.branch-index l.branches))) ≡ max l.levels (most_of_branches (branch_trees l.branches))
