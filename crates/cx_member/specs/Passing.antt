-- What is read of the numbers that a call is given and gives.
use Rattle.std.specs.Prelude.{◌≡◌, ℕ, ℤ, ◌+◌, ◌<◌, ◌≤◌, List, Option, Some, IsSome, IsSomeAnd, IfSome, slice_get}
use Rattle.std.specs.List.{AllByRecursion}
use Rattle.cx_base.specs.declared.memory.Region.{Region}
use Rattle.cx_cells.specs.Calls.{ValueHolds, ValuesHold, ArgsMeet}
use Rattle.cx_cells.specs.Layouts.{Extent, extent_of}
use Rattle.cx_cells.specs.Symbols.{told_by, telling_kind}
use Rattle.cx_term.specs.Conditions.{Holds}
use Rattle.cx_cells.specs.Values.{values_of}
use Rattle.cx_cells.specs.declared.calls.FnType.{FnType}
use Rattle.cx_cells.specs.declared.calls.ResultType.{ResultType}
use Rattle.cx_cells.specs.declared.cell.CellKind.{CellKind}
use Rattle.cx_cells.specs.declared.telling.Told.{Told}
use Rattle.cx_member.specs.Reading.{AreSmall}

-- the answer is the value of each symbol that the kind tells in this way, wherever the number holds what the kind says
abbrev pub IsToldBy : List Extent → CellKind → ℤ → Told → Option ℤ → Type 0
IsToldBy layout kind z told answer = (v : ℕ → ℤ) (s : ℕ) → told_by s kind ≡ Some told → ValueHolds v layout kind z → answer ≡ Some (v s)

-- each number holds what the kind at its place says, with these values of the symbols
abbrev pub ArgsHold : List Extent → List CellKind → List ℤ → (ℕ → ℤ) → Type 0
ArgsHold layout kinds given v = ValuesHold v layout kinds given

abbrev pub ResultHolds : List Extent → CellKind → ℤ → (ℕ → ℤ) → Type 0
ResultHolds layout kind z v = ValueHolds v layout kind z

-- ---- what is asked of a function, so that its binders can be bound

pub record ResultReads (known : ℕ) (r : ResultType) : Type 0 where
  pub few : r.binders ≤ 16
  pub told : (s : ℕ) → known ≤ s → s < known + r.binders → IsSome (told_by s r.cell)

pub record FnReads (fn : FnType) : Type 0 where
  pub few : fn.binders ≤ 24
  pub told : (s : ℕ) → s < fn.binders → IsSome (telling_kind s fn.args)
  pub result : IfSome fn.result (ResultReads fn.binders)

-- ---- what holds with the values that are bound

pub record ArgsMeetWith (fn : FnType) (values args : List ℤ) (layout : List Extent) : Type 0 where
  pub each : ValuesHold (values_of values) layout fn.args args
  pub conds : AllByRecursion (Holds (values_of values)) fn.conds

-- the arguments meet the function with these values of its binders, and with no others
pub record MeetOnly (fn : FnType) (args : List ℤ) (layout : List Extent) (values : List ℤ) : Type 0 where
  pub meets : ArgsMeet fn values args layout
  pub only : (bs : List ℤ) → ArgsMeet fn bs args layout → bs ≡ values
  pub small : AreSmall values

abbrev pub MeetNone : FnType → List ℤ → List Extent → Type 0
MeetNone fn args layout = (bs : List ℤ) → ArgsMeet fn bs args layout → ⊥

pub record ResultMeetsWith (r : ResultType) (values : List ℤ) (layout : List Extent) (z : ℤ) : Type 0 where
  pub conds : AllByRecursion (Holds (values_of values)) r.conds
  pub value : ValueHolds (values_of values) layout r.cell z

-- ---- memories

-- each of the two memories has a region at the place, and these are the same but for their bytes
abbrev pub AreSameAt : List Region → List Region → ℕ → Type 0
AreSameAt before after i = IsSomeAnd (slice_get before i) (λ r. IsSomeAnd (slice_get after i) (λ s. extent_of r ≡ extent_of s))
