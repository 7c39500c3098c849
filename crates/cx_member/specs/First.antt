-- The first region that does not hold its type.
use Rattle.std.specs.Prelude.{ℕ, ◌<◌, List, slice_get, IsSomeAnd}
use Rattle.cx_base.specs.declared.memory.Region.{Region}
use Rattle.cx_cells.specs.Layouts.{layout_of}
use Rattle.cx_cells.specs.Typing.{RegionHolds}
use Rattle.cx_cells.specs.declared.form.Form.{Form}

-- the region at the place does not hold its type, and each one before it does
pub record IsFirstUntyped (forms : List Form) (memory : List Region) (i : ℕ) : Type 0 where
  pub fails : IsSomeAnd (slice_get memory i) (λ r. RegionHolds forms (layout_of memory) r → ⊥)
  pub before : (j : ℕ) → j < i → IsSomeAnd (slice_get memory j) (RegionHolds forms (layout_of memory))
