-- What opening adds is true: the state stands afterwards too, for values that agree on the symbols that there were.
use Rattle.std.specs.Prelude.{◌≡◌, ℕ, ℤ, pos, ◌≤ℤ◌, ◌<ℤ◌, ◌<◌, ◌≤◌, List, [], length, Option, Some, None, slice_get, IfSome, true, false, ◌⊎◌}
use Rattle.cx_base.specs.declared.memory.Region.{Region}
use Rattle.cx_term.specs.Forms.{Linear, value}
use Rattle.cx_cells.specs.Meaning.{element_count}
use Rattle.cx_cells.specs.Values.{all_values}
use Rattle.cx_cells.specs.declared.form.Form.{Form}
use Rattle.cx_state.specs.Known.{fact_at, is_one_of}
use Rattle.cx_state.specs.Run.{Run}
use Rattle.cx_state.specs.Stands.{IsPrivate, IsNull, StandsAtAccess, Stands}
use Rattle.cx_state.specs.Valid.{LocalBelow, IsValid}
use Rattle.cx_state.specs.declared.state.Fact.{Fact}
use Rattle.cx_state.specs.declared.state.Env.{Env}

-- both give the symbols below n the same values
abbrev pub Agree : ℕ → (ℕ → ℤ) → (ℕ → ℤ) → Type 0
Agree n v w = (s : ℕ) → s < n → w s ≡ v s

-- ---- what may be opened

-- where the index of an element is given, the region that the fact is about has that element, if its type has elements
abbrev pub IsElement : List Form → (ℕ → ℤ) → Fact → Option Linear → Type 0
IsElement forms v f None = Unit {0}
IsElement forms v f (Some i) =
    (pos 0 ≤ℤ value v i) × IfSome (slice_get forms f.name) (λ form. IfSome form.tail (λ tail. value v i <ℤ element_count (all_values v f.args) tail))

-- the symbol has a fact, is not null and not fresh, and its region has the element, whose index names symbols of the state. A
-- region of a shared type holds its type in the layout of the whole memory, so where it is of such a type there are no fresh
-- symbols, whose blocks the state does not see
pub record MayOpen (forms : List Form) (v : ℕ → ℤ) (env : Env) (s : ℕ) (element : Option Linear) : Type 0 where
  pub f : Fact
  pub fact : fact_at env.facts s ≡ Some f
  pub live : IsNull v f s → ⊥
  pub old : is_one_of env.fresh s ≡ false
  pub alone : IsPrivate forms f.name ⊎ (env.fresh ≡ [])
  pub named : LocalBelow (length env.ranges) element
  pub has : IsElement forms v f element

-- ---- what stands then

-- for some values that agree on the symbols that there were. It also stands before the next change that others make, where the
-- first did and the type of the region that is opened, of this name, is not shared
pub record StandsOn (run : Run) (v : ℕ → ℤ) (env next : Env) (locals : List (Option ℤ)) (memory : List Region) (name : ℕ) : Type 0 where
  pub w : ℕ → ℤ
  pub agrees : Agree (length env.ranges) v w
  pub at_access : StandsAtAccess run w next locals memory
  pub stands : Stands run v env locals memory → IsPrivate run.forms name → Stands run w next locals memory

-- wherever the first state stands, and the symbol's region may be opened, the second stands of the same memory
abbrev pub OpensTruly : List Form → Env → ℕ → Option Linear → Env → Type 0
OpensTruly forms env s element next =
    (run : Run) (v : ℕ → ℤ) (locals : List (Option ℤ)) (memory : List Region)
    → run.forms ≡ forms
    → StandsAtAccess run v env locals memory
    → (m : MayOpen forms v env s element)
    → StandsOn run v env next locals memory m.f.name

-- ---- whether or not it stands

-- the symbol's fact is about the same region, and allows null only where this one does
pub record SaysStill (facts : List (Option Fact)) (t : ℕ) (f : Fact) : Type 0 where
  pub g : Fact
  pub fact : fact_at facts t ≡ Some g
  pub name : g.name ≡ f.name
  pub args : g.args ≡ f.args
  pub off : g.off ≡ f.off
  pub null : g.null ≡ true → f.null ≡ true

-- the second state is valid, and has no fewer symbols and the same locals, fresh and staged ones; no fact is lost
pub record KeepsWell (forms : List Form) (env next : Env) : Type 0 where
  pub valid : IsValid forms next
  pub symbols : length env.ranges ≤ length next.ranges
  pub locals : next.locals ≡ env.locals
  pub fresh : next.fresh ≡ env.fresh
  pub staged : next.staged ≡ env.staged
  pub facts : (t : ℕ) (f : Fact) → fact_at env.facts t ≡ Some f → SaysStill next.facts t f

-- so where the element's index names symbols of the first
abbrev pub OpensWell : List Form → Env → Option Linear → Env → Type 0
OpensWell forms env element next = LocalBelow (length env.ranges) element → KeepsWell forms env next
