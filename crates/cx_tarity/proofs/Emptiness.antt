-- Fields of a list that is not empty.
use Rattle.std.proofs.Common.{◌≡◌, ◌≤◌, List, [], ◌∷◌, length, false, refl, arith}
use Rattle.cx_tsyn.specs.declared.stype.SField.{SField}
use Rattle.cx_tsyn.specs.Types.{field_trees}
use Rattle.cx_tarity.specs.Arity.{is_empty}

pub field_there : (fs : List SField) → 1 ≤ length fs → false ≡ is_empty (field_trees fs)
field_there [] h = absurd (omega arith)
field_there (f ∷ fs) h = refl
