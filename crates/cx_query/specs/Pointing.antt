-- The base of a form, and the region that it points into.
use Rattle.std.specs.Prelude.{◌≡◌, ℕ, ℤ, pos, Bool, false, not, ◌&&◌, ◌==◌, if◌then◌else◌, List, [], ◌∷◌, filter, Option, Some, None, is_some, IfSome}
use Rattle.cx_base.specs.declared.memory.Region.{Region}
use Rattle.cx_term.specs.Forms.{Linear, value, symbol_of}
use Rattle.cx_term.specs.Sums.{is_zero}
use Rattle.cx_entail.specs.Ranges.{same_z}
use Rattle.cx_entail.specs.Shows.{shown_nonzero}
use Rattle.cx_cells.specs.Values.{all_values}
use Rattle.cx_cells.specs.Layouts.{Points, layout_of}
use Rattle.cx_cells.specs.Symbols.{is_number}
use Rattle.cx_state.specs.Known.{fact_at, is_one_of}
use Rattle.cx_state.specs.Run.{Run}
use Rattle.cx_state.specs.Stands.{StandsAtAccess, visible}
use Rattle.cx_state.specs.declared.state.Fact.{Fact}
use Rattle.cx_state.specs.declared.state.Env.{Env}
use Rattle.cx_state.specs.declared.state.Pointed.{Pointed}
use Rattle.cx_query.specs.Shown.{difference, sum}

-- the part has the coefficient 1, and its symbol a fact
abbrev pub is_base_part : List (Option Fact) → ℕ × ℤ → Bool
is_base_part facts p = same_z p.1 (pos 1) && is_some (fact_at facts p.0)

abbrev pub base_in : List (Option Fact) → List (ℕ × ℤ) → Option ℕ
base_in facts [] = None
base_in facts (p ∷ ps) = if is_base_part facts p then Some p.0 else base_in facts ps

-- the least symbol of the form that has the coefficient 1 and a fact; the parts rise
abbrev pub base_of : Env → Linear → Option ℕ
base_of env t = base_in env.facts t.parts

-- the symbol, which has this fact, may be null: the fact allows it, and it is not shown to be other than 0
abbrev pub null_of : Env → ℕ → Fact → Bool
null_of env s f = f.null && not (shown_nonzero env.conds env.ranges (symbol_of s))

-- the form is the number 0
abbrev pub is_nothing : Option Linear → Bool
is_nothing None = false
is_nothing (Some t) = is_zero t.konst && is_number t

abbrev pub pointed : ℕ → Option Linear → Bool → Option Pointed
pointed s None null = None
pointed s (Some off) null = Some (record { sym = s; off = off; null = null })

-- by the rest past what the fact of s says; none where s may be null and the rest is not 0
abbrev pub point_with : Env → ℕ → Fact → Option Linear → Option Pointed
point_with env s f rest = if null_of env s f && not (is_nothing rest) then None else pointed s (sum (Some f.off) rest) (null_of env s f)

abbrev pub point_in : Env → Linear → ℕ → Option Fact → Option Pointed
point_in env t s None = None
point_in env t s (Some f) = point_with env s f (difference (Some t) (Some (symbol_of s)))

abbrev pub point_by : Env → Linear → ℕ → Option Pointed
point_by env t s = point_in env t s (fact_at env.facts s)

abbrev pub point_at : Env → Linear → Option ℕ → Option Pointed
point_at env t None = None
point_at env t (Some s) = if is_one_of env.fresh s then None else point_by env t s

-- where the form points to
abbrev pub point_of : Env → Linear → Option Pointed
point_of env t = point_at env t (base_of env t)

-- ---- a symbol that counts as not fresh

-- the fresh symbols without this one, where there is one
abbrev pub fresh_but : Option ℕ → List ℕ → List ℕ
fresh_but None symbols = symbols
fresh_but (Some s) symbols = filter (λ t. not (t == s)) symbols

-- the state in which this symbol, where there is one, is not fresh
abbrev pub not_fresh : Option ℕ → Env → Env
not_fresh own env = record env { fresh = fresh_but own env.fresh }

-- ---- what is answered is true

-- the form has this value wherever the state stands: the address past the base of such a region of the layout, or 0 where null
abbrev pub PointsAt : Env → Linear → Pointed → Fact → Type 0
PointsAt env t p f =
    (run : Run) (v : ℕ → ℤ) (locals : List (Option ℤ)) (memory : List Region)
    → StandsAtAccess run v env locals memory
    → Points (visible v env (layout_of memory)) f.name (all_values v f.args) (value v p.off) p.null (value v t)

-- the symbol of the answer has a fact, and the form points into a region of its type and arguments
abbrev pub PointsTruly : Env → Linear → Option Pointed → Type 0
PointsTruly env t answer = IfSome answer (λ p. (f : Fact) × (fact_at env.facts p.sym ≡ Some f) × PointsAt env t p f)
