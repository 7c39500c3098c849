-- When two regions, and two spots in them, are shown to have no byte in common.
use Rattle.std.specs.Prelude.{◌≡◌, ℕ, ℤ, pos, ◌+ℤ◌, ◌-ℤ◌, ◌+◌, ◌≤◌, Bool, false, not, ◌||◌, ◌&&◌, ◌==◌, nat_le, nat_lt, if◌then◌else◌, List, Option, Some, None, slice_get, ◌⊎◌}
use Rattle.cx_base.specs.Memory.{size_of}
use Rattle.cx_base.specs.declared.memory.Region.{Region}
use Rattle.cx_term.specs.Forms.{Linear, value, symbol_of}
use Rattle.cx_term.specs.Sums.{is_zero}
use Rattle.cx_cells.specs.Values.{all_values}
use Rattle.cx_cells.specs.Layouts.{extent_of, IsAt}
use Rattle.cx_cells.specs.Symbols.{is_number}
use Rattle.cx_state.specs.Known.{fact_at, is_one_of}
use Rattle.cx_state.specs.Run.{Run}
use Rattle.cx_state.specs.Stands.{IsNull, StandsAtAccess}
use Rattle.cx_state.specs.declared.state.Fact.{Fact}
use Rattle.cx_state.specs.declared.state.Env.{Env}
use Rattle.cx_query.specs.Shown.{difference, sum, number, shown_in}
use Rattle.cx_learn.specs.Learning.{nonzero_in}
use Rattle.cx_apart.specs.declared.spots.Spot.{Spot}

-- ---- regions

-- where the region begins that the symbol's fact is about: the symbol less the offset
abbrev pub base_form : ℕ → Fact → Option Linear
base_form s f = difference (Some (symbol_of s)) (Some f.off)

-- the form is there, and shown not to be 0
abbrev pub shown_nonzero : Env → Option Linear → Bool
shown_nonzero env None = false
shown_nonzero env (Some t) = nonzero_in env t

-- the regions of the two symbols are shown to begin at different addresses
abbrev pub bases_apart : Env → ℕ → Fact → ℕ → Fact → Bool
bases_apart env s f t g = shown_nonzero env (difference (base_form s f) (base_form t g))

-- exactly one of the two symbols is fresh, or both are and they are different
abbrev pub fresh_apart : Env → ℕ → ℕ → Bool
fresh_apart env s t = if is_one_of env.fresh s then not (is_one_of env.fresh t && s == t) else is_one_of env.fresh t

-- the symbol stands for one of the first globals, and its fact is about the region that begins there
abbrev pub is_global : ℕ → Fact → Bool
is_global s f = (nat_le 24 s && nat_lt s 40) && (is_number f.off && is_zero f.off.konst)

abbrev pub globals_apart : ℕ → Fact → ℕ → Fact → Bool
globals_apart s f t g = is_global s f && (is_global t g && not (s == t))

-- the regions that the facts f of s and g of t are about are shown to be different
abbrev pub regions_apart : Env → ℕ → Fact → ℕ → Fact → Bool
regions_apart env s f t g = not (f.name == g.name) || (bases_apart env s f t g || (fresh_apart env s t || globals_apart s f t g))

-- ---- spots

-- how far the spot begins past its region's base
abbrev pub offset_form : Fact → Spot → Option Linear
offset_form f a = sum (Some f.off) (Some a.at)

-- a spot of so many bytes at the first offset is shown to end before the second offset
abbrev pub ends_before : Env → Option Linear → ℕ → Option Linear → Bool
ends_before env a size b = shown_in env (difference (difference b a) (number (pos size)))

abbrev pub offsets_apart : Env → Fact → Spot → Fact → Spot → Bool
offsets_apart env f a g b = ends_before env (offset_form f a) a.size (offset_form g b) || ends_before env (offset_form g b) b.size (offset_form f a)

abbrev pub spots_by : Env → Option Fact → Spot → Option Fact → Spot → Bool
spots_by env None a g b = false
spots_by env (Some f) a None b = false
spots_by env (Some f) a (Some g) b = regions_apart env a.sym f b.sym g || offsets_apart env f a g b

-- the two spots are shown to have no byte in common: their regions are different, or their offsets are; one without a fact is
-- apart from none
abbrev pub are_apart : Env → Spot → Spot → Bool
are_apart env a b = spots_by env (fact_at env.facts a.sym) a (fact_at env.facts b.sym) b

-- ---- what is shown is true

-- the spot lies in the region at the place i of the memory, which is the one that the fact of its symbol is about; it is not null
pub record LiesIn (v : ℕ → ℤ) (env : Env) (memory : List Region) (a : Spot) (i : ℕ) : Type 0 where
  pub f : Fact
  pub fact : fact_at env.facts a.sym ≡ Some f
  pub live : IsNull v f a.sym → ⊥
  pub r : Region
  pub there : slice_get memory i ≡ Some r
  pub is : IsAt f.name (all_values v f.args) (v a.sym -ℤ value v f.off) (extent_of r)
  pub at : ℕ
  pub place : pos at ≡ value v f.off +ℤ value v a.at
  pub inside : at + a.size ≤ size_of r

-- where they lie in one region, one ends before the other begins
abbrev pub AreApart : Env → Spot → Spot → Type 0
AreApart env a b =
    (run : Run) (v : ℕ → ℤ) (locals : List (Option ℤ)) (memory : List Region)
    → StandsAtAccess run v env locals memory
    → (i : ℕ) (x : LiesIn v env memory a i) (y : LiesIn v env memory b i)
    → (x.at + a.size ≤ y.at) ⊎ (y.at + b.size ≤ x.at)
