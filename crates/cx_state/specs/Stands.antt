-- When a state stands: what it says is true of the locals and the memory that a run has come to, for the values v of its
-- symbols.
use Rattle.std.specs.Prelude.{◌≡◌, ◌≢◌, ℕ, ℤ, pos, ◌+ℤ◌, ◌-ℤ◌, ◌+◌, ◌<◌, ◌≤◌, List, [], ◌∷◌, length, take, drop, filter, All, AllPairs, Any, Option, Some, None, slice_get, IsSomeAnd, Bool, true, false, not, if◌then◌else◌, ◌⊎◌}
use Rattle.std.specs.List.{list_any, AllByRecursion}
use Rattle.cx_base.specs.Memory.{size_of}
use Rattle.cx_base.specs.declared.memory.Region.{Region}
use Rattle.cx_term.specs.Forms.{Linear, value, constant_of}
use Rattle.cx_term.specs.Conditions.{Holds}
use Rattle.cx_term.specs.Sums.{is_zero}
use Rattle.cx_entail.specs.Bounds.{InRanges}
use Rattle.cx_entail.specs.Ranges.{same_z}
use Rattle.cx_cells.specs.Values.{values_of, all_values}
use Rattle.cx_cells.specs.Layouts.{Extent, extent_of, layout_of, IsAt, Points, Extends}
use Rattle.cx_cells.specs.Meaning.{number_at, HeadHolds, ElementsHold, FormHolds, form_size}
use Rattle.cx_cells.specs.Typing.{IsMemory}
use Rattle.cx_cells.specs.declared.form.Form.{Form}
use Rattle.cx_state.specs.Known.{fact_at, is_one_of}
use Rattle.cx_state.specs.Run.{Run}
use Rattle.cx_state.specs.declared.state.Fact.{Fact}
use Rattle.cx_state.specs.declared.state.Cell.{Cell}
use Rattle.cx_state.specs.declared.state.Env.{Env}

-- ---- anchors

abbrev pub address_in : Option Region → ℤ
address_in None = pos 0
address_in (Some r) = pos r.base

-- the address of the declared global at the place, 0 where there is none
abbrev pub global_address : Run → ℕ → ℤ
global_address run j = address_in (slice_get (take run.globals run.before) j)

-- the first symbols are the binders' values and the globals' addresses
pub record AnchorsStand (run : Run) (v : ℕ → ℤ) : Type 0 where
  pub binders : (k : ℕ) → k < 24 → v k ≡ values_of run.binders k
  pub globals : (j : ℕ) → j < 16 → v (24 + j) ≡ global_address run j

-- ---- locals

-- each local with a form is set, and has the form's value
abbrev pub LocalsStand : (ℕ → ℤ) → List (Option Linear) → List (Option ℤ) → Type 0
LocalsStand v forms locals = (k : ℕ) (t : Linear) → slice_get forms k ≡ Some (Some t) → slice_get locals k ≡ Some (Some (value v t))

-- ---- blocks of fresh symbols

abbrev pub offset_in : Option Fact → Linear
offset_in None = constant_of (pos 0)
offset_in (Some f) = f.off

-- the address at which the region begins that the symbol's fact is about
abbrev pub region_base : (ℕ → ℤ) → List (Option Fact) → ℕ → ℤ
region_base v facts s = v s -ℤ value v (offset_in (fact_at facts s))

-- a region of one of these bases begins at the address
abbrev pub is_base : List ℤ → ℕ → Bool
is_base bases b = list_any (same_z (pos b)) bases

abbrev pub region_bases : (ℕ → ℤ) → List (Option Fact) → List ℕ → List ℤ
region_bases v facts [] = []
region_bases v facts (s ∷ ss) = region_base v facts s ∷ region_bases v facts ss

-- where the blocks of the fresh symbols begin; one that is 0 has no block
abbrev pub block_bases : (ℕ → ℤ) → List (Option Fact) → List ℕ → List ℤ
block_bases v facts [] = []
block_bases v facts (s ∷ ss) = if is_zero (v s) then block_bases v facts ss else (region_base v facts s ∷ block_bases v facts ss)

-- a block of a fresh symbol begins at the address
abbrev pub is_block : (ℕ → ℤ) → Env → ℕ → Bool
is_block v env b = is_base (block_bases v env.facts env.fresh) b

-- the layout without the blocks of fresh symbols
abbrev pub visible : (ℕ → ℤ) → Env → List Extent → List Extent
visible v env layout = filter (λ e. not (is_block v env e.base)) layout

-- the region type is there, and is not marked shared
abbrev pub IsPrivate : List Form → ℕ → Type 0
IsPrivate forms name = IsSomeAnd (slice_get forms name) (λ form. form.shared ≡ false)

-- the region is the block of a symbol with this fact and the value z: it has the fact's type, which is not shared, its
-- arguments, and the size of these
pub record IsBlock (forms : List Form) (v : ℕ → ℤ) (f : Fact) (z : ℤ) (r : Region) : Type 0 where
  pub is : IsAt f.name (all_values v f.args) (z -ℤ value v f.off) (extent_of r)
  pub private : IsPrivate forms f.name
  pub sized : IsSomeAnd (slice_get forms f.name) (λ form. form_size form r.args ≡ Some (size_of r))

-- the fresh symbol has a fact. Where that allows no null it is not 0. Where it is not 0 its block is a region of memory that
-- the run did not begin with
pub record FreshStands (run : Run) (v : ℕ → ℤ) (facts : List (Option Fact)) (memory : List Region) (s : ℕ) : Type 0 where
  pub f : Fact
  pub fact : fact_at facts s ≡ Some f
  pub nonzero : f.null ≡ false → v s ≢ pos 0
  pub block : v s ≢ pos 0 → Any (IsBlock run.forms v f (v s)) (drop (length run.before) memory)

-- the blocks of the two fresh symbols, where both are not 0, are different
abbrev pub BlocksApart : (ℕ → ℤ) → List (Option Fact) → ℕ → ℕ → Type 0
BlocksApart v facts s t = v s ≢ pos 0 → v t ≢ pos 0 → region_base v facts s ≢ region_base v facts t

-- ---- facts

-- the fact of each symbol that is not fresh is true in the layout
abbrev pub FactsStand : (ℕ → ℤ) → Env → List Extent → Type 0
FactsStand v env layout =
    (s : ℕ) (f : Fact) → fact_at env.facts s ≡ Some f → is_one_of env.fresh s ≡ false → Points layout f.name (all_values v f.args) (value v f.off) f.null (v s)

-- ---- regions

-- the staged symbol has a fact that allows no null
abbrev pub StagedStands : List (Option Fact) → ℕ → Type 0
StagedStands facts s = IsSomeAnd (fact_at facts s) (λ f. f.null ≡ false)

-- the region has its type's number of arguments, and their size. Where the type is shared it holds in the layout of the whole
-- memory. Else its tail holds in the visible layout, and so does its head unless the region is that of a staged symbol
pub record RegionStands (form : Form) (whole layout : List Extent) (staged : Bool) (r : Region) : Type 0 where
  pub given : length r.args ≡ form.params
  pub sized : form_size form r.args ≡ Some (size_of r)
  pub shared : form.shared ≡ true → FormHolds form r.args whole r.bytes
  pub elements : form.shared ≡ false → ElementsHold form r.args layout r.bytes form.tail
  pub head : form.shared ≡ false → staged ≡ false → HeadHolds form r.args layout r.bytes

-- each region that is no block of a fresh symbol is as the forms say
abbrev pub RegionsStand : List Form → (ℕ → ℤ) → Env → List Extent → List Region → Type 0
RegionsStand forms v env whole memory =
    All
    (λ r.
    is_block v env r.base ≡ false
    → IsSomeAnd (slice_get forms r.name) (λ form. RegionStands form whole (visible v env whole) (is_base (region_bases v env.facts env.staged) r.base) r))
    memory

-- ---- cells

-- the cell lies inside the region, which is the one that the fact of its symbol is about, and its bytes have the value
pub record CellInRegion (v : ℕ → ℤ) (f : Fact) (c : Cell) (r : Region) : Type 0 where
  pub is : IsAt f.name (all_values v f.args) (v c.sym -ℤ value v f.off) (extent_of r)
  pub at : ℕ
  pub place : pos at ≡ value v f.off +ℤ value v c.at
  pub inside : at + c.size ≤ size_of r
  pub bytes : number_at r.bytes at c.size c.signed ≡ value v c.value

-- the symbol is 0, and its fact allows that
abbrev pub IsNull : (ℕ → ℤ) → Fact → ℕ → Type 0
IsNull v f s = (f.null ≡ true) × (v s ≡ pos 0)

-- the cell lies inside some region, unless its symbol is null
pub record CellStands (v : ℕ → ℤ) (facts : List (Option Fact)) (memory : List Region) (c : Cell) : Type 0 where
  pub f : Fact
  pub fact : fact_at facts c.sym ≡ Some f
  pub held : IsNull v f c.sym ⊎ Any (CellInRegion v f c) memory

-- the type of the cell's region is not shared, unless its symbol is null
pub record CellIsPrivate (forms : List Form) (v : ℕ → ℤ) (facts : List (Option Fact)) (c : Cell) : Type 0 where
  pub f : Fact
  pub fact : fact_at facts c.sym ≡ Some f
  pub private : IsNull v f c.sym ⊎ IsPrivate forms f.name

-- ---- all of them

-- the state stands at the moment of an access, when cells of shared regions may be known too
pub record StandsAtAccess (run : Run) (v : ℕ → ℤ) (env : Env) (locals : List (Option ℤ)) (memory : List Region) : Type 0 where
  pub locals_stand : LocalsStand v env.locals locals
  pub ranges : InRanges env.ranges v
  pub conds : AllByRecursion (Holds v) env.conds
  pub anchors : AnchorsStand run v
  pub memory_stands : IsMemory memory
  pub extends : Extends run.before memory
  pub fresh : All (FreshStands run v env.facts memory) env.fresh
  pub fresh_apart : AllPairs (BlocksApart v env.facts) env.fresh
  pub facts : FactsStand v env (visible v env (layout_of memory))
  pub staged : All (StagedStands env.facts) env.staged
  pub regions : RegionsStand run.forms v env (layout_of memory) memory
  pub cells : All (CellStands v env.facts memory) env.cells

-- the state stands: also before the next change that others make, since it has no cell of a shared region
pub record Stands (run : Run) (v : ℕ → ℤ) (env : Env) (locals : List (Option ℤ)) (memory : List Region) : Type 0 where
  pub at_access : StandsAtAccess run v env locals memory
  pub private : All (CellIsPrivate run.forms v env.facts) env.cells
