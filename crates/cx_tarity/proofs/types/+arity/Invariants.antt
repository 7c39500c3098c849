use Rattle.std.proofs.Common.{◌≡◌, drop, true}
use Rattle.cx_tsyn.specs.Types.{stype_trees, field_trees, branch_trees}
use Rattle.cx_tscope.specs.Faults.{first}
use Rattle.cx_tarity.specs.Known.{known_of, names_of}
use Rattle.cx_tarity.specs.Arity.{arity_in_types, arity_in_fields, arity_in_branches}
use Rattle.cx_tarity.proofs.types.«+arity».Given as goal

abbrev pub invariant-arity_in_types-loop-part : goal.invariant-arity_in_types-loop-part
invariant-arity_in_types-loop-part l = first (arity_in_types (known_of l.known) (stype_trees (drop l.part-index l.parts))) ≡ first (arity_in_types (known_of l.known) (stype_trees l.parts))

abbrev pub invariant-arity_in_fields-loop-field : goal.invariant-arity_in_fields-loop-field
invariant-arity_in_fields-loop-field l =
    first (arity_in_fields (known_of l.known) l.union_ l.is_first (names_of l.left) (field_trees (drop l.field-index l.fields)))
    ≡ first (arity_in_fields (known_of l.known) l.union_ true (names_of l.members) (field_trees l.fields))

abbrev pub invariant-arity_in_branches-loop-branch : goal.invariant-arity_in_branches-loop-branch
invariant-arity_in_branches-loop-branch l = first (arity_in_branches (known_of l.known) (branch_trees (drop l.branch-index l.branches))) ≡ first (arity_in_branches (known_of l.known) (branch_trees l.branches))
