-- What is shown to be of a kind is.
use Rattle.std.specs.Prelude.{◌≡◌, ◌≢◌, ◌↔◌, ℕ, suc, pos, ◌-ℤ◌, ◌*◌, length, ℤ, ◌≤ℤ◌, Bool, true, false, not, ◌&&◌, ◌||◌, ◌==◌, List, [], ◌∷◌, Option, Some, None}
use Rattle.std.proofs.Common.{arith, refl, ap, sym, inl, inr, subst}
use Rattle.std.proofs.lemmas.Int.{ints}
use Rattle.std.proofs.lemmas.Bool.Decides.{nat_tests}
use Rattle.cx_base.specs.Number.{HasSize, half_of, InRange}
use Rattle.cx_base.proofs.Sizes.{half_positive}
use Rattle.cx_term.specs.Forms.{Linear, value}
use Rattle.cx_term.specs.Replaced.{put_all, values_of}
use Rattle.cx_term.proofs.AllReplaced.{value-put_all}
use Rattle.cx_term.proofs.Tests.{and_left, and_right, or_cases}
use Rattle.cx_cells.specs.Values.{all_values}
use Rattle.cx_cells.specs.Layouts.{Extent, Points, layout_of}
use Rattle.cx_cells.specs.declared.cell.CellKind.{CellKind}
use Rattle.cx_cells.specs.declared.cell.CellKind.TheVariants.{Any, Val, Ptr}
use Rattle.cx_state.specs.Stands.{visible}
use Rattle.cx_state.specs.declared.state.Fact.{Fact}
use Rattle.cx_state.specs.declared.state.Env.{Env}
use Rattle.cx_state.specs.declared.state.Pointed.{Pointed}
use Rattle.cx_query.specs.Shown.{at_least, at_most, shown_equal, shown_zero}
use Rattle.cx_query.specs.Pointing.{point_of, not_fresh}
use Rattle.cx_query.specs.Kinds.{is_size, least_of, greatest_of, in_type, instance, instance_values, args_equal, pointer_meets, fact_meets, point_meets, kind_shown, kind_shown_but, NumberHolds, HoldsKind}
use Rattle.cx_query.proofs.Comes.{Meets, Comes, fit-comes, some-comes, at_least-sound, at_most-sound, equal-sound, zero-sound}
use Rattle.cx_query.proofs.PointLaws.{Knows, stands-knows, PointsWell, points_well}

ends_by : (size : ℕ) (signed : Bool) (z : ℤ) → least_of size signed ≤ℤ z → z ≤ℤ greatest_of size signed → InRange size signed z
ends_by size true z l h = (l, omega (arith, ints, h))
ends_by size false z l h = (l, omega (arith, ints, h))

-- a form that is shown in the range of a type lies there
pub in_type-sound : (env : Env) (v : ℕ → ℤ) (size : ℕ) (signed : Bool) (t : Linear) → Meets env v → in_type env size signed t ≡ true → InRange size signed (value v t)
in_type-sound env v size signed t m e =
    let a = at_least env t (least_of size signed) in
    let b = at_most env t (greatest_of size signed) in
    let h = and_right (is_size size) (a && b) e in
    ends_by size signed (value v t) (at_least-sound env v t (least_of size signed) m (and_left a b h)) (at_most-sound env v t (greatest_of size signed) m (and_right a b h))

pub instance-comes : (v : ℕ → ℤ) (values : Option (List Linear)) (u : Linear) → Comes v (instance values u) (value (instance_values values v) u)
instance-comes v None u = some-comes v u
instance-comes v (Some values) u = fit-comes v (put_all values u) (value (values_of values v) u) (value-put_all v values u)

args-sound : (env : Env) (v : ℕ → ℤ) (values : Option (List Linear)) (ks bs : List Linear) → Meets env v → args_equal env values ks bs ≡ true → all_values v bs ≡ all_values (instance_values values v) ks
args-sound env v values [] [] m e = refl
args-sound env v values [] (b ∷ bs) m e = absurd (let w : false ≡ true = e in cc)
args-sound env v values (k ∷ ks) [] m e = absurd (let w : false ≡ true = e in cc)
args-sound env v values (k ∷ ks) (b ∷ bs) m e =
    let p = shown_equal env (instance values k) (Some b) in
    let x = equal-sound env v (instance values k) (Some b) (value (instance_values values v) k) (value v b) m (instance-comes v values k) (some-comes v b) (and_left p (args_equal env values ks bs) e) in
    let y = args-sound env v values ks bs m (and_right p (args_equal env values ks bs) e) in
    cc

pub name_true : (a b : ℕ) → (a == b) ≡ true → a ≡ b
name_true a b e = grind (arith, nat_tests)

null_kept : (m n : Bool) → n || not m ≡ true → m ≡ true → n ≡ true
null_kept true n e h = or_cases n false (n ≡ true) (λ f. f) (λ f. absurd (let w : false ≡ true = f in cc)) e
null_kept false n e h = absurd (let w : false ≡ true = h in cc)

points_same : (layout : List Extent) (m n : ℕ) (ks bs : List ℤ) (a b : ℤ) (p q : Bool) (z : ℤ) → m ≡ n → ks ≡ bs → a ≡ b → (p ≡ true → q ≡ true) → Points layout m ks a p z → Points layout n bs b q z
points_same layout m n ks bs a b p q z e f g k (inl h) = inl (k h.0, h.1)
points_same layout m n ks bs a b p q z e f g k (inr h) = inr (rw (← e, ← f, ← g) h)

meets-sound : (env : Env) (v : ℕ → ℤ) (values : Option (List Linear)) (name : ℕ) (args : List Linear) (off : Linear) (null : Bool) (p : Pointed) (f : Fact) (layout : List Extent) (z : ℤ) → Meets env v → pointer_meets env values (Ptr name args off null) p f ≡ true → Points layout f.name (all_values v f.args) (value v p.off) p.null z → Points layout name (all_values (instance_values values v) args) (value (instance_values values v) off) null z
meets-sound env v values name args off null p f layout z m e h =
    let a = f.name == name in
    let b = args_equal env values args f.args in
    let c = shown_equal env (instance values off) (Some p.off) in
    let d = null || not p.null in
    let r = and_right a (b && (c && d)) e in
    let s = and_right b (c && d) r in
    points_same layout f.name name (all_values v f.args) (all_values (instance_values values v) args) (value v p.off) (value (instance_values values v) off) p.null null z
    (name_true f.name name (and_left a (b && (c && d)) e))
    (args-sound env v values args f.args m (and_left b (c && d) r))
    (sym (equal-sound env v (instance values off) (Some p.off) (value (instance_values values v) off) (value v p.off) m (instance-comes v values off) (some-comes v p.off) (and_left c d s)))
    (null_kept p.null null (and_right c d s))
    h

point-sound : (own : Option ℕ) (env : Env) (values : Option (List Linear)) (name : ℕ) (args : List Linear) (off : Linear) (null : Bool) (t : Linear) (o : Option Pointed) (v : ℕ → ℤ) (layout : List Extent) → Meets env v → Knows (not_fresh own env) v layout → PointsWell (not_fresh own env) t o → point_meets env values (Ptr name args off null) o ≡ true → Points layout name (all_values (instance_values values v) args) (value (instance_values values v) off) null (value v t)
point-sound own env values name args off null t None v layout m K k e = absurd (let w : false ≡ true = e in cc)
point-sound own env values name args off null t (Some p) v layout m K k e =
    let g : fact_meets env values (Ptr name args off null) p (Some k.0) ≡ true = subst (λ (o : Option Fact). fact_meets env values (Ptr name args off null) p o ≡ true) k.1 e in
    meets-sound env v values name args off null p k.0 layout (value v t) m g (k.2 v layout K)

-- what is shown of a kind, where a symbol may count as not fresh, is true in each layout in which the state is then
pub kind-holds-but : (own : Option ℕ) (env : Env) (values : Option (List Linear)) (kind : CellKind) (size : ℕ) (t : Linear) → kind_shown_but own env values kind size t ≡ true → (v : ℕ → ℤ) (layout : List Extent) → Meets env v → Knows (not_fresh own env) v layout → NumberHolds (instance_values values v) layout kind size (value v t)
kind-holds-but own env values Any size t e v layout m K = tt
kind-holds-but own env values (Val signed u) size t e v layout m K =
    let a = shown_equal env (Some t) (instance values u) in
    let b = in_type env size signed t in
    (in_type-sound env v size signed t m (and_right a b e), equal-sound env v (Some t) (instance values u) (value v t) (value (instance_values values v) u) m (some-comes v t) (instance-comes v values u) (and_left a b e))
kind-holds-but own env values (Ptr name args off null) size t e v layout m K =
    let a = in_type env 8 false t in
    let b = null && shown_zero env t in
    let p = point_of (not_fresh own env) t in
    let c = point_meets env values (Ptr name args off null) p in
    let P = Points layout name (all_values (instance_values values v) args) (value (instance_values values v) off) null (value v t) in (
      in_type-sound env v 8 false t m (and_left a (b || c) e),
      or_cases b c P
          (λ h. inl (and_left null (shown_zero env t) h, zero-sound env v t m (and_right null (shown_zero env t) h)))
          (λ h. point-sound own env values name args off null t p v layout m K (points_well (not_fresh own env) t) h)
          (and_right a (b || c) e),
    )

pub holds_kind : (env : Env) (values : Option (List Linear)) (kind : CellKind) (size : ℕ) (t : Linear) → kind_shown env values kind size t ≡ true → HoldsKind env values kind size t
holds_kind env values kind size t e run v locals memory S =
    let K = stands-knows run v env locals memory S in
    kind-holds-but None env values kind size t e v (visible v env (layout_of memory)) K.meets K

-- ---- the code's ways
pub args-differ : (env : Env) (values : Option (List Linear)) (ks bs : List Linear) → length ks ≢ length bs → false ≡ args_equal env values ks bs
args-differ env values [] [] n = absurd (n refl)
args-differ env values [] (b ∷ bs) n = refl
args-differ env values (k ∷ ks) [] n = refl
args-differ env values (k ∷ ks) (b ∷ bs) n = differ_by (shown_equal env (instance values k) (Some b)) (args_equal env values ks bs) (args-differ env values ks bs (λ e. n (ap suc e)))
  where
    differ_by : (p q : Bool) → false ≡ q → false ≡ p && q
    differ_by true q e = e
    differ_by false q e = refl

-- the ends of a range that has the numbers of the integer type
pub ends-only : (size : ℕ) (signed : Bool) (a b : ℤ) → HasSize size → ((v : ℤ) → InRange size signed v ↔ ((a ≤ℤ v) × (v ≤ℤ b))) → (a ≡ least_of size signed) × (b ≡ greatest_of size signed)
ends-only size true a b s h =
    let p = half_positive size s in
    let l = (h (pos 0 -ℤ pos (half_of size))).0 (omega (arith, ints), omega (arith, ints, p)) in
    let g = (h (pos (half_of size) -ℤ pos 1)).0 (omega (arith, ints, p), omega (arith, ints)) in
    let x = (h a).1 (omega (arith, ints), omega (arith, ints, l.0, l.1)) in
    let y = (h b).1 (omega (arith, ints, g.0, g.1), omega (arith, ints)) in
    (omega (arith, ints, l.0, x.0), omega (arith, ints, g.1, y.1))
ends-only size false a b s h =
    let p = half_positive size s in
    let l = (h (pos 0)).0 (omega (arith, ints), omega (arith, ints, p)) in
    let g = (h (pos (2 * half_of size) -ℤ pos 1)).0 (omega (arith, ints, p), omega (arith, ints)) in
    let x = (h a).1 (omega (arith, ints), omega (arith, ints, l.0, l.1)) in
    let y = (h b).1 (omega (arith, ints, g.0, g.1), omega (arith, ints)) in
    (omega (arith, ints, l.0, x.0), omega (arith, ints, g.1, y.1))

any_four : (a b c d : Bool) → a || (b || (c || d)) ≡ true → ((a || b) || c) || d ≡ true
any_four true b c d e = refl
any_four false true c d e = refl
any_four false false c d e = e

pub has_size : (n : ℕ) → is_size n ≡ true → HasSize n
has_size n e = any_four (n == 1) (n == 2) (n == 4) (n == 8) e
