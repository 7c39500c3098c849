-- Conditions and cells that are shown hold, at the values of the forms that the symbols of the type have.
use Rattle.std.specs.Prelude.{◌≡◌, ℕ, zero, suc, ℤ, pos, ◌+◌, List, [], ◌∷◌, ◌++◌, length, Option, Some, None, Bool, true, false}
use Rattle.std.specs.List.{AllByRecursion}
use Rattle.std.proofs.Common.{refl, sym, ap, ◌∙◌, subst, append_assoc, append-nil}
use Rattle.cx_base.specs.Number.{HasSize, InRange}
use Rattle.cx_base.specs.declared.memory.Region.{Region}
use Rattle.cx_term.specs.Forms.{Linear, value}
use Rattle.cx_term.specs.Conditions.{Holds}
use Rattle.cx_term.specs.Replaced.{values_of as term_values}
use Rattle.cx_term.specs.declared.term.Ineq.{Ineq}
use Rattle.cx_term.specs.declared.term.Ineq.TheVariants.{Ge, Ne}
use Rattle.cx_term.proofs.Tests.{and_left, and_right}
use Rattle.cx_cells.specs.Kept.{HasKindSize}
use Rattle.cx_cells.specs.Values.{values_of, all_values}
use Rattle.cx_cells.specs.Layouts.{Extent, Points, layout_of}
use Rattle.cx_cells.specs.Meaning.{number_at, KindHolds, CellHolds}
use Rattle.cx_cells.specs.declared.cell.CellKind.{CellKind}
use Rattle.cx_cells.specs.declared.cell.CellKind.TheVariants.{Any, Val, Ptr}
use Rattle.cx_cells.specs.declared.cell.FlatCell.{FlatCell}
use Rattle.cx_state.specs.Run.{Run}
use Rattle.cx_state.specs.Stands.{visible, StandsAtAccess}
use Rattle.cx_state.specs.declared.state.Cell.{Cell}
use Rattle.cx_state.specs.declared.state.Env.{Env}
use Rattle.cx_query.specs.Kinds.{instance, NumberHolds}
use Rattle.cx_query.specs.Pointing.{not_fresh}
use Rattle.cx_query.specs.Shown.{number}
use Rattle.cx_query.proofs.Comes.{Meets, Comes, shown_in-sound}
use Rattle.cx_query.proofs.KindLaws.{instance-comes, kind-holds-but}
use Rattle.cx_query.proofs.PointLaws.{Knows}
use Rattle.cx_learn.proofs.Learns.{nonzero_in-sound}
use Rattle.cx_fact.proofs.Tells.{value-same, value_at}
use Rattle.cx_apart.specs.Apart.{shown_nonzero}
use Rattle.cx_close.specs.Knowing.{Window, window, known_at, known_binder, with_value, known_binders}
use Rattle.cx_close.specs.Closing.{cond_shown, conds_shown, is_any, known_shown, cells_shown, IsRegionOf}
use Rattle.cx_close.proofs.Binders.{none_stays}
use Rattle.cx_close.proofs.Places.{reads-as, known-reads}

-- ---- values

-- a form of the type comes to the same at the forms' values
pub value-numbers : (v : ℕ → ℤ) (values : List Linear) (t : Linear) → value (term_values values v) t ≡ value (values_of (all_values v values)) t
value-numbers v values t = value-same (term_values values v) (values_of (all_values v values)) t (value_at v values)

all-numbers : (v : ℕ → ℤ) (values ts : List Linear) → all_values (term_values values v) ts ≡ all_values (values_of (all_values v values)) ts
all-numbers v values [] = refl
all-numbers v values (t ∷ ts) = let a = value-numbers v values t in let b = all-numbers v values ts in cc

-- ---- conditions
nonzero_by : (env : Env) (v : ℕ → ℤ) (o : Option Linear) (z : ℤ) → Meets env v → Comes v o z → shown_nonzero env o ≡ true → z ≡ pos 0 → ⊥
nonzero_by env v None z m c e q = absurd (let w : false ≡ true = e in cc)
nonzero_by env v (Some t) z m c e q = nonzero_in-sound env v t m e (c t refl ∙ q)

cond-holds : (env : Env) (v : ℕ → ℤ) (values : List Linear) (c : Ineq) → Meets env v → cond_shown env values c ≡ true → Holds (values_of (all_values v values)) c
cond-holds env v values (Ge t) m e =
    let h = shown_in-sound env v (instance (Some values) t) (value (term_values values v) t) m (instance-comes v (Some values) t) e in
    rw (value-numbers v values t) at h
cond-holds env v values (Ne t) m e = λ q. nonzero_by env v (instance (Some values) t) (value (term_values values v) t) m (instance-comes v (Some values) t) e (value-numbers v values t ∙ q)

pub conds-hold : (env : Env) (v : ℕ → ℤ) (values : List Linear) (cs : List Ineq) → Meets env v → conds_shown env values cs ≡ true → AllByRecursion (Holds (values_of (all_values v values))) cs
conds-hold env v values [] m e = tt
conds-hold env v values (c ∷ cs) m e =
    let a = cond_shown env values c in
    let b = conds_shown env values cs in
    (cond-holds env v values c m (and_left a b e), conds-hold env v values cs m (and_right a b e))

-- ---- cells
kind_from : (v : ℕ → ℤ) (layout : List Extent) (bytes : List ℕ) (off size : ℕ) (kind : CellKind) (values : List Linear) (a : Bool) (z : ℤ) → HasKindSize size kind → number_at bytes off size a ≡ z → NumberHolds (term_values values v) layout kind size z → KindHolds (values_of (all_values v values)) layout bytes off size kind
kind_from v layout bytes off size Any values a z k e h = tt
kind_from v layout bytes off size (Val signed u) values a z k e h = reads-as bytes off size a signed z k h.0 e ∙ h.1 ∙ value-numbers v values u
kind_from v layout bytes off size (Ptr name args to null) values a z k e h =
    let q : HasSize size = subst HasSize (sym k) refl in
    let r : InRange size false z = subst (λ (n : ℕ). InRange n false z) (sym k) h.0 in
    let n : number_at bytes off size false ≡ z = reads-as bytes off size a false z q r e in
    let p : Points layout name (all_values (values_of (all_values v values)) args) (value (values_of (all_values v values)) to) null z = rw (all-numbers v values args, value-numbers v values to) at h.1 in
    subst (λ (x : ℤ). Points layout name (all_values (values_of (all_values v values)) args) (value (values_of (all_values v values)) to) null x) (sym n) p

pub any_holds : (w : ℕ → ℤ) (layout : List Extent) (bytes : List ℕ) (off size : ℕ) (kind : CellKind) → is_any kind ≡ true → KindHolds w layout bytes off size kind
any_holds w layout bytes off size Any e = tt
any_holds w layout bytes off size (Val signed u) e = absurd (let w : false ≡ true = e in cc)
any_holds w layout bytes off size (Ptr name args to null) e = absurd (let w : false ≡ true = e in cc)

-- the region in hand, in which the symbol points
pub record Scene (run : Run) (v : ℕ → ℤ) (env : Env) (locals : List (Option ℤ)) (memory : List Region) (s i : ℕ) : Type 0 where
  pub stands : StandsAtAccess run v env locals memory
  pub region : IsRegionOf v env.facts memory s i
  pub meets : Meets env v
  pub knows : Knows (not_fresh (Some s) env) v (visible v (not_fresh (Some s) env) (layout_of memory))

cell_by : (run : Run) (v : ℕ → ℤ) (env : Env) (locals : List (Option ℤ)) (memory : List Region) (s i k : ℕ) (values : List Linear) (cells : List FlatCell) (c : FlatCell) (d : Option Cell) (x : Scene run v env locals memory s i) → HasKindSize c.size c.kind → known_at env (window (Some s) s x.region.f (number (pos k)) cells) c ≡ d → known_shown (Some s) env values c.size c.kind d ≡ true → CellHolds (values_of (all_values v values)) (visible v (not_fresh (Some s) env) (layout_of memory)) x.region.r.bytes k c
cell_by run v env locals memory s i k values cells c None x h q e = any_holds (values_of (all_values v values)) (visible v (not_fresh (Some s) env) (layout_of memory)) x.region.r.bytes (k + c.at) c.size c.kind e
cell_by run v env locals memory s i k values cells c (Some d) x h q e =
    let l = visible v (not_fresh (Some s) env) (layout_of memory) in
    kind_from v l x.region.r.bytes (k + c.at) c.size c.kind values d.signed (value v d.value) h (known-reads run v env locals memory s i k c d x.stands x.region q) (kind-holds-but (Some s) env (Some values) c.kind c.size d.value e v l x.meets x.knows)

pub cells-hold : (run : Run) (v : ℕ → ℤ) (env : Env) (locals : List (Option ℤ)) (memory : List Region) (s i k : ℕ) (values : List Linear) (all cells : List FlatCell) (x : Scene run v env locals memory s i) → AllByRecursion (λ c. HasKindSize c.size c.kind) cells → cells_shown env (window (Some s) s x.region.f (number (pos k)) all) values cells ≡ true → AllByRecursion (CellHolds (values_of (all_values v values)) (visible v (not_fresh (Some s) env) (layout_of memory)) x.region.r.bytes k) cells
cells-hold run v env locals memory s i k values all [] x h e = tt
cells-hold run v env locals memory s i k values all (c ∷ cs) x h e =
    let w = window (Some s) s x.region.f (number (pos k)) all in
    let a = known_shown (Some s) env values c.size c.kind (known_at env w c) in
    let b = cells_shown env w values cs in
    (cell_by run v env locals memory s i k values all c (known_at env w c) x h.0 refl (and_left a b e), cells-hold run v env locals memory s i k values all cs x h.1 (and_right a b e))

-- ---- binders

-- the values are the first ones and n more
pub record Longer (values : List Linear) (n : ℕ) (all : List Linear) : Type 0 where
  pub more : List Linear
  pub count : length more ≡ n
  pub same : all ≡ values ++ more

longer_by : (env : Env) (w : Window) (n : ℕ) (values all : List Linear) (o : Option Linear) → known_binders env w n (with_value values o) ≡ Some all → ((t : Linear) → known_binders env w n (Some (values ++ t ∷ [])) ≡ Some all → Longer (values ++ t ∷ []) n all) → Longer values (suc n) all
longer_by env w n values all None e f = absurd (let q : None ≡ Some all = sym (none_stays env w n) ∙ e in cc)
longer_by env w n values all (Some t) e f =
    let h = f t e in
    record { more = t ∷ h.more; count = ap suc h.count; same = h.same ∙ append_assoc values (t ∷ []) h.more }

pub longer : (env : Env) (w : Window) (n : ℕ) (values all : List Linear) → known_binders env w n (Some values) ≡ Some all → Longer values n all
longer env w zero values all e = record { more = []; count = refl; same = let q : values ≡ all = cc in sym q ∙ sym (append-nil values) }
longer env w (suc n) values all e = longer_by env w n values all (known_binder env w (length values)) e (λ t q. longer env w n (values ++ t ∷ []) all q)
