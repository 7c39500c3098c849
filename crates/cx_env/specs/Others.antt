-- What others do to a memory between two accesses, and the state that still stands then.
use Rattle.std.specs.Prelude.{◌≡◌, ℕ, ℤ, ◌≤◌, List, length, filter, Option, Some, None, slice_get, Bool, true, false, not, IsSomeAnd, ◌⊎◌}
use Rattle.cx_base.specs.declared.memory.Region.{Region}
use Rattle.cx_cells.specs.Layouts.{layout_of, Extends}
use Rattle.cx_cells.specs.Typing.{IsMemory, RegionHolds}
use Rattle.cx_cells.specs.declared.form.Form.{Form}
use Rattle.cx_state.specs.Known.{fact_at}
use Rattle.cx_state.specs.Run.{Run}
use Rattle.cx_state.specs.Stands.{IsPrivate, StandsAtAccess, Stands}
use Rattle.cx_state.specs.declared.state.Cell.{Cell}
use Rattle.cx_state.specs.declared.state.Fact.{Fact}
use Rattle.cx_state.specs.declared.state.Env.{Env}

-- others make the second memory of the first: its regions keep their places, types, arguments and sizes; those of types that
-- are not shared keep their bytes, and no such region is added; each region that is not as it was holds its type
pub record ChangedByOthers (forms : List Form) (before after : List Region) : Type 0 where
  pub memory : IsMemory after
  pub extends : Extends before after
  pub kept : (i : ℕ) (r : Region) → slice_get before i ≡ Some r → IsPrivate forms r.name → slice_get after i ≡ Some r
  pub typed : (i : ℕ) (r : Region) → slice_get after i ≡ Some r → (slice_get before i ≡ Some r) ⊎ RegionHolds forms (layout_of after) r
  pub added : (i : ℕ) (r : Region) → length before ≤ i → slice_get after i ≡ Some r → IsSomeAnd (slice_get forms r.name) (λ form. form.shared ≡ true)

-- ---- cells of shared regions

abbrev pub is_private_form : Option Form → Bool
is_private_form None = false
is_private_form (Some form) = not form.shared

abbrev pub is_private_fact : List Form → Option Fact → Bool
is_private_fact forms None = false
is_private_fact forms (Some f) = is_private_form (slice_get forms f.name)

-- the cell's symbol has a fact of a type that is not shared
abbrev pub is_private_cell : List Form → List (Option Fact) → Cell → Bool
is_private_cell forms facts c = is_private_fact forms (fact_at facts c.sym)

-- the state without the cells of shared regions
abbrev pub without_shared : List Form → Env → Env
without_shared forms env = record env { cells = filter (is_private_cell forms env.facts) env.cells }

-- what stands at an access stands also before the next change without these cells
abbrev pub StandsWithout : List Form → Env → Env → Type 0
StandsWithout forms env next =
    (run : Run) (v : ℕ → ℤ) (locals : List (Option ℤ)) (memory : List Region) → run.forms ≡ forms → StandsAtAccess run v env locals memory → Stands run v next locals memory

-- what stands before a change stands after it
abbrev pub StandsAfterChanges : List Form → Env → Type 0
StandsAfterChanges forms env =
    (run : Run) (v : ℕ → ℤ) (locals : List (Option ℤ)) (before after : List Region) → run.forms ≡ forms → Stands run v env locals before → ChangedByOthers forms before after → Stands run v env locals after
