-- A run of a function, as a state speaks of it.
use Rattle.std.specs.Prelude.{ℕ, ℤ, List}
use Rattle.cx_base.specs.declared.memory.Region.{Region}
use Rattle.cx_cells.specs.declared.form.Form.{Form}

-- what a run began with: the forms of the region types, how many globals are declared, the memory, whose first regions are
-- the globals, and the values of the binders of the function's type
pub record Run : Type 0 where
  pub forms : List Form
  pub globals : ℕ
  pub before : List Region
  pub binders : List ℤ
