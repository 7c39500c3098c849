-- Types and fields of a list that is not empty.
use Rattle.std.proofs.Common.{◌≡◌, ◌≤◌, List, [], ◌∷◌, length, true, refl, arith}
use Rattle.cx_tsyn.specs.declared.stype.SType.{SType}
use Rattle.cx_tsyn.specs.declared.stype.SField.{SField}
use Rattle.cx_tsyn.specs.Types.{stype_trees, field_trees}
use Rattle.cx_tbinders.specs.Undetermined.{some_type, some_field}

pub type_there : (ts : List SType) → 1 ≤ length ts → true ≡ some_type (stype_trees ts)
type_there [] h = absurd (omega arith)
type_there (t ∷ ts) h = refl

pub field_there : (fs : List SField) → 1 ≤ length fs → true ≡ some_field (field_trees fs)
field_there [] h = absurd (omega arith)
field_there (f ∷ fs) h = refl
