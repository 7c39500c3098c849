use Rattle.std.proofs.Common.{◌≡◌, drop}
use Rattle.cx_tsyn.specs.Types.{field_trees}
use Rattle.cx_tarity.specs.Known.{known_of, names_of}
use Rattle.cx_tarity.specs.Arity.{are_missing}
use Rattle.cx_tarity.proofs.fields.are_missing.Given as goal

abbrev pub invariant-loop-field : goal.invariant-loop-field
invariant-loop-field l =
    are_missing (known_of l.known) (names_of l.left) (field_trees (drop l.field-index l.fields))
    ≡ are_missing (known_of l.known) (names_of l.members) (field_trees l.fields)
