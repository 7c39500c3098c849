-- When what is known of the bytes of a region shows its type.
use Rattle.std.specs.Prelude.{◌≡◌, ℕ, ℤ, pos, ◌-ℤ◌, Bool, true, false, not, ◌&&◌, ◌||◌, ◌==◌, List, [], ◌∷◌, length, Option, Some, None, slice_get, IsSomeAnd}
use Rattle.std.specs.List.{list_any}
use Rattle.cx_base.specs.declared.memory.Region.{Region}
use Rattle.cx_term.specs.Forms.{Linear, value}
use Rattle.cx_term.specs.declared.term.Ineq.{Ineq}
use Rattle.cx_term.specs.declared.term.Ineq.TheVariants.{Ge, Ne}
use Rattle.cx_cells.specs.Values.{all_values}
use Rattle.cx_cells.specs.Layouts.{extent_of, layout_of, IsAt}
use Rattle.cx_cells.specs.Meaning.{HeadHolds, FormHolds}
use Rattle.cx_cells.specs.declared.cell.CellKind.{CellKind}
use Rattle.cx_cells.specs.declared.cell.CellKind.TheVariants.{Any, Val, Ptr}
use Rattle.cx_cells.specs.declared.cell.FlatCell.{FlatCell}
use Rattle.cx_cells.specs.declared.form.CaseBranch.{CaseBranch}
use Rattle.cx_cells.specs.declared.form.Form.{Form}
use Rattle.cx_cells.specs.declared.form.Tail.{Tail}
use Rattle.cx_state.specs.Known.{fact_at, is_one_of}
use Rattle.cx_state.specs.Run.{Run}
use Rattle.cx_state.specs.Stands.{StandsAtAccess, IsNull, visible}
use Rattle.cx_state.specs.declared.state.Cell.{Cell}
use Rattle.cx_state.specs.declared.state.Fact.{Fact}
use Rattle.cx_state.specs.declared.state.Env.{Env}
use Rattle.cx_query.specs.Kinds.{instance, kind_shown_but}
use Rattle.cx_query.specs.Pointing.{not_fresh}
use Rattle.cx_query.specs.Shown.{number, shown_in}
use Rattle.cx_apart.specs.Apart.{shown_nonzero}
use Rattle.cx_close.specs.Knowing.{Window, window, known_at, known_binders}

-- ---- conditions and cells

-- the condition, with the values for its symbols, is shown
abbrev pub cond_shown : Env → List Linear → Ineq → Bool
cond_shown env values (Ge t) = shown_in env (instance (Some values) t)
cond_shown env values (Ne t) = shown_nonzero env (instance (Some values) t)

abbrev pub conds_shown : Env → List Linear → List Ineq → Bool
conds_shown env values [] = true
conds_shown env values (c ∷ cs) = cond_shown env values c && conds_shown env values cs

abbrev pub is_any : CellKind → Bool
is_any Any = true
is_any (Val signed u) = false
is_any (Ptr name args off null) = false

-- where the kind says something, a cell is known, and shown to be of the kind
abbrev pub known_shown : Option ℕ → Env → List Linear → ℕ → CellKind → Option Cell → Bool
known_shown own env values size kind None = is_any kind
known_shown own env values size kind (Some d) = kind_shown_but own env (Some values) kind size d.value

abbrev pub cells_shown : Env → Window → List Linear → List FlatCell → Bool
cells_shown env w values [] = true
cells_shown env w values (c ∷ cs) = known_shown w.own env values c.size c.kind (known_at env w c) && cells_shown env w values cs

-- ---- branches

abbrev pub branch_window : Option ℕ → Form → ℕ → Fact → CaseBranch → Window
branch_window own form s f b = window own s f (number (pos form.cases_at)) b.part.cells

abbrev pub branch_with : Env → Window → CaseBranch → Option (List Linear) → Bool
branch_with env w b None = false
branch_with env w b (Some values) = conds_shown env values b.part.conds && cells_shown env w values b.part.cells

-- the branch's guard is shown, its binders have known values, and its conditions and cells are shown
abbrev pub branch_shown : Option ℕ → Env → Form → ℕ → Fact → List Linear → CaseBranch → Bool
branch_shown own env form s f values b =
    conds_shown env values b.guard && branch_with env (branch_window own form s f b) b (known_binders env (branch_window own form s f b) b.part.binders (Some values))

-- some branch is shown, where there are branches
abbrev pub cases_shown : Option ℕ → Env → Form → ℕ → Fact → List Linear → List CaseBranch → Bool
cases_shown own env form s f values [] = true
cases_shown own env form s f values (b ∷ bs) = list_any (branch_shown own env form s f values) (b ∷ bs)

-- ---- the head

abbrev pub head_window : Option ℕ → Form → ℕ → Fact → Window
head_window own form s f = window own s f (number (pos 0)) form.head

abbrev pub head_with : Option ℕ → Env → Form → ℕ → Fact → Option (List Linear) → Bool
head_with own env form s f None = false
head_with own env form s f (Some values) =
    conds_shown env values form.conds && (cells_shown env (head_window own form s f) values form.head && cases_shown own env form s f values form.cases)

-- the head's binders have known values, its conditions are shown, and so are its cells and a branch
abbrev pub head_shown : Option ℕ → Env → Form → ℕ → Fact → Bool
head_shown own env form s f = head_with own env form s f (known_binders env (head_window own form s f) form.binders (Some f.args))

-- ---- regions

abbrev pub are_any : List FlatCell → Bool
are_any [] = true
are_any (c ∷ cs) = is_any c.kind && are_any cs

-- the elements of the tail, where there is one, may be any bytes
abbrev pub tail_is_any : Option Tail → Bool
tail_is_any None = true
tail_is_any (Some tail) = (tail.part.binders == 0) && ((length tail.part.conds == 0) && are_any tail.part.cells)

-- a block that is new shows its tail too, since this may be any bytes
abbrev pub closes_form : Env → ℕ → Fact → Option Form → Bool
closes_form env s f None = false
closes_form env s f (Some form) = (not (is_one_of env.fresh s) || tail_is_any form.tail) && head_shown (Some s) env form s f

abbrev pub closes_by : List Form → Env → ℕ → Option Fact → Bool
closes_by forms env s None = false
closes_by forms env s (Some f) = closes_form env s f (slice_get forms f.name)

-- what is known of the region of the symbol shows its head, and where it is a new block all of it
abbrev pub closes : List Form → Env → ℕ → Bool
closes forms env s = closes_by forms env s (fact_at env.facts s)

-- ---- what is shown is true

-- the region at the place i of the memory is the one that the fact of the symbol, which is not null, is about
pub record IsRegionOf (v : ℕ → ℤ) (facts : List (Option Fact)) (memory : List Region) (s i : ℕ) : Type 0 where
  pub f : Fact
  pub fact : fact_at facts s ≡ Some f
  pub live : IsNull v f s → ⊥
  pub r : Region
  pub there : slice_get memory i ≡ Some r
  pub is : IsAt f.name (all_values v f.args) (v s -ℤ value v f.off) (extent_of r)

-- the region's bytes hold its type's head in the layout in which the symbol is not fresh; where the type is not shared they
-- hold all of it
pub record HoldsClosed (v : ℕ → ℤ) (env : Env) (s : ℕ) (memory : List Region) (form : Form) (r : Region) : Type 0 where
  pub head : HeadHolds form r.args (visible v (not_fresh (Some s) env) (layout_of memory)) r.bytes
  pub all : form.shared ≡ false → FormHolds form r.args (visible v (not_fresh (Some s) env) (layout_of memory)) r.bytes

-- wherever the state stands, the bytes of the symbol's region hold its type
abbrev pub ClosesTruly : List Form → Env → ℕ → Type 0
ClosesTruly forms env s =
    (run : Run) (v : ℕ → ℤ) (locals : List (Option ℤ)) (memory : List Region)
    → StandsAtAccess run v env locals memory
    → run.forms ≡ forms
    → (i : ℕ) (x : IsRegionOf v env.facts memory s i)
    → IsSomeAnd (slice_get forms x.r.name) (λ form. HoldsClosed v env s memory form x.r)
