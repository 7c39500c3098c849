-- The types of functions and allocators: when arguments meet one, and when what a call gives meets it.
use Rattle.std.specs.Prelude.{◌≡◌, ℕ, ℤ, pos, ◌*ℤ◌, List, [], ◌∷◌, ◌++◌, length, All, slice_get, IsSomeAnd, true, false, Option, Some, None}
use Rattle.std.specs.List.{AllByRecursion}
use Rattle.cx_base.specs.Memory.{IsArgument}
use Rattle.cx_base.specs.Number.{InRange}
use Rattle.cx_base.specs.declared.memory.Region.{Region}
use Rattle.cx_term.specs.Forms.{value}
use Rattle.cx_term.specs.Conditions.{Holds}
use Rattle.cx_cells.specs.Values.{values_of, all_values}
use Rattle.cx_cells.specs.Layouts.{Extent, Points, Extends, layout_of}
use Rattle.cx_cells.specs.Meaning.{form_size}
use Rattle.cx_cells.specs.Typing.{IsMemory, Typed}
use Rattle.cx_cells.specs.declared.calls.AllocArg.{AllocArg}
use Rattle.cx_cells.specs.declared.calls.AllocArg.TheVariants.{Number, Param, Over}
use Rattle.cx_cells.specs.declared.calls.AllocType.{AllocType}
use Rattle.cx_cells.specs.declared.calls.FnType.{FnType}
use Rattle.cx_cells.specs.declared.calls.ResultType.{ResultType}
use Rattle.cx_cells.specs.declared.cell.CellKind.{CellKind}
use Rattle.cx_cells.specs.declared.cell.CellKind.TheVariants.{Any, Val, Ptr}
use Rattle.cx_cells.specs.declared.form.Form.{Form}
use Rattle.cx_cells.specs.declared.script.Block.{Block}

-- a number that is passed or returned holds what the kind says, as 8 bytes that write it would
abbrev pub ValueHolds : (ℕ → ℤ) → List Extent → CellKind → ℤ → Type 0
ValueHolds v layout Any z = Unit {0}
ValueHolds v layout (Val signed u) z = InRange 8 signed z × (z ≡ value v u)
ValueHolds v layout (Ptr name args off null) z = InRange 8 false z × Points layout name (all_values v args) (value v off) null z

-- there are as many numbers as kinds, and each holds what the kind at its place says
abbrev pub ValuesHold : (ℕ → ℤ) → List Extent → List CellKind → List ℤ → Type 0
ValuesHold v layout [] [] = Unit {0}
ValuesHold v layout [] (z ∷ zs) = ⊥
ValuesHold v layout (k ∷ ks) [] = ⊥
ValuesHold v layout (k ∷ ks) (z ∷ zs) = ValueHolds v layout k z × ValuesHold v layout ks zs

-- with these values of the function's binders its arguments hold their kinds, and its conditions are true
pub record ArgsMeet (fn : FnType) (binders args : List ℤ) (layout : List Extent) : Type 0 where
  pub count : length binders ≡ fn.binders
  pub each : ValuesHold (values_of binders) layout fn.args args
  pub conds : AllByRecursion (Holds (values_of binders)) fn.conds

-- the number holds the result's kind, for some values of the result's own binders at which its conditions are true
pub record ValueMeets (r : ResultType) (known : List ℤ) (layout : List Extent) (z : ℤ) : Type 0 where
  pub binders : List ℤ
  pub count : length binders ≡ r.binders
  pub conds : AllByRecursion (Holds (values_of (known ++ binders))) r.conds
  pub value : ValueHolds (values_of (known ++ binders)) layout r.cell z

-- what is returned meets the result's type; a function without one returns nothing
abbrev pub ResultMeets : Option ResultType → List ℤ → List Extent → Option ℤ → Type 0
ResultMeets None known layout None = Unit {0}
ResultMeets None known layout (Some z) = ⊥
ResultMeets (Some r) known layout None = ⊥
ResultMeets (Some r) known layout (Some z) = ValueMeets r known layout z

-- what a call with these arguments gives: memory is extended and typed again, and for all values of the binders that the
-- arguments meet, the result meets its type in the new layout
pub record Answers (forms : List Form) (fn : FnType) (args : List ℤ) (before : List Region) (given : Option ℤ) (after : List Region) : Type 0 where
  pub extends : Extends before after
  pub typed : Typed forms after
  pub nothing : fn.result ≡ None → given ≡ None
  pub result : (binders : List ℤ) → ArgsMeet fn binders args (layout_of before) → ResultMeets fn.result binders (layout_of after) given

-- z is this argument of the new region, where an allocator is called with these numbers
abbrev pub IsAllocArg : List ℤ → AllocArg → ℤ → Type 0
IsAllocArg given (Number n) z = z ≡ n
IsAllocArg given (Param p) z = z ≡ values_of given p
IsAllocArg given (Over p d) z = z *ℤ pos d ≡ values_of given p

abbrev pub AreAllocArgs : List ℤ → List AllocArg → List ℤ → Type 0
AreAllocArgs given [] [] = Unit {0}
AreAllocArgs given [] (z ∷ zs) = ⊥
AreAllocArgs given (a ∷ rest) [] = ⊥
AreAllocArgs given (a ∷ rest) (z ∷ zs) = IsAllocArg given a z × AreAllocArgs given rest zs

-- how many bytes the call asks for
abbrev pub asked_with : List ℤ → ℕ → Option ℕ → ℤ
asked_with given bytes None = values_of given bytes
asked_with given bytes (Some times) = values_of given bytes *ℤ values_of given times

abbrev pub asked_bytes : AllocType → List ℤ → ℤ
asked_bytes alloc given = asked_with given alloc.bytes alloc.times

-- a call of the allocator with these numbers asks for a region of its type with these arguments and this size
pub record AllocMeets (forms : List Form) (alloc : AllocType) (given args : List ℤ) (size : ℕ) : Type 0 where
  pub count : length given ≡ alloc.params
  pub each : AreAllocArgs given alloc.args args
  pub ranges : All IsArgument args
  pub sized : IsSomeAnd (slice_get forms alloc.region) (λ form. form_size form args ≡ Some size)
  pub asked : asked_bytes alloc given ≡ pos size

-- the region that stands at the block
abbrev pub region_of : AllocType → List ℤ → Block → Region
region_of alloc args b = record { base = b.base; name = alloc.region; args = args; bytes = b.bytes }

-- the block is one that the allocator may give: of that size, all 0 where it says so, and a memory with the regions before it
pub record BlockMeets (alloc : AllocType) (args : List ℤ) (size : ℕ) (before : List Region) (b : Block) : Type 0 where
  pub sized : length b.bytes ≡ size
  pub zero : alloc.zero ≡ true → All (λ n. n ≡ 0) b.bytes
  pub memory : IsMemory (before ++ region_of alloc args b ∷ [])
