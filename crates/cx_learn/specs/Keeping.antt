-- What steps on a state keep: what stands before stands after, for the same values of the symbols and the same run.
use Rattle.std.specs.Prelude.{◌≡◌, ℕ, ℤ, List, Option}
use Rattle.cx_base.specs.declared.memory.Region.{Region}
use Rattle.cx_cells.specs.declared.form.Form.{Form}
use Rattle.cx_state.specs.Run.{Run}
use Rattle.cx_state.specs.Stands.{StandsAtAccess, Stands}
use Rattle.cx_state.specs.Valid.{IsValid}
use Rattle.cx_state.specs.declared.state.Env.{Env}

-- the second state stands wherever the first does
pub record StandsToo (run : Run) (v : ℕ → ℤ) (env next : Env) : Type 0 where
  pub at_access : (locals : List (Option ℤ)) (memory : List Region) → StandsAtAccess run v env locals memory → StandsAtAccess run v next locals memory
  pub stands : (locals : List (Option ℤ)) (memory : List Region) → Stands run v env locals memory → Stands run v next locals memory

-- it does for all values of the symbols at which the fact is true
abbrev pub KeepsWhere : Env → Env → ((ℕ → ℤ) → Type 0) → Type 0
KeepsWhere env next P = (run : Run) (v : ℕ → ℤ) → P v → StandsToo run v env next

-- the second state is valid where the first is, and the fact is true
abbrev pub KeepsValid : Env → Env → Type 0 → Type 0
KeepsValid env next P = (forms : List Form) → P → IsValid forms env → IsValid forms next

-- the second state stands wherever the first does, for runs with these forms
abbrev pub KeepsRun : List Form → Env → Env → Type 0
KeepsRun forms env next = (run : Run) (v : ℕ → ℤ) → run.forms ≡ forms → StandsToo run v env next

-- the second state is valid where the first is
abbrev pub KeepsFormed : List Form → Env → Env → Type 0
KeepsFormed forms env next = IsValid forms env → IsValid forms next
