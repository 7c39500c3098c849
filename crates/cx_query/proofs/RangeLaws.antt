-- The value of a form lies in its range.
use Rattle.std.specs.Int.{int_rem_euclid}
use Rattle.std.specs.Prelude.{◌≡◌, ◌+◌, if◌then◌else◌, length, ℕ, ℤ, pos, ◌+ℤ◌, ◌≤ℤ◌, ◌<◌, ◌^◌, unsigned_abs, nat_le, ◌==◌, Bool, true, false, ◌&&◌, ◌||◌, List, [], ◌∷◌, Some, None, IfSome}
use Rattle.std.proofs.Common.{arith, refl, cond, eqb, get_or, drop, add-one, drop-cons}
use Rattle.std.proofs.lemmas.Int.{ints}
use Rattle.std.proofs.lemmas.Bool.Decides.{nat_tests}
use Rattle.cx_term.specs.Forms.{Linear, value}
use Rattle.cx_term.proofs.Ring.{mul-add_left}
use Rattle.cx_term.proofs.Tests.{and_right}
use Rattle.cx_entail.specs.Ranges.{Span, Has, Congruent}
use Rattle.cx_entail.specs.Bounds.{modulus, at_lows, least, most}
use Rattle.cx_entail.specs.Joins.{stepped}
use Rattle.cx_entail.proofs.BoundLaws.{least-le, most-ge, leaves_remainder}
use Rattle.cx_entail.proofs.Euclid.{split}
use Rattle.cx_state.specs.declared.state.Env.{Env}
use Rattle.cx_query.specs.Shown.{at_least, at_most}
use Rattle.cx_query.specs.Range.{thresholds, greatest_shown, least_shown, low_of, high_of, range_of, Ranges}
use Rattle.cx_query.proofs.Comes.{Meets, at_least-sound, at_most-sound}
use lib.Signed.{le_z}

greatest_by : (env : Env) (v : ℕ → ℤ) (t : Linear) (z best : ℤ) (b : Bool) → Meets env v → le_z best z && at_least env t z ≡ b → best ≤ℤ value v t → cond b z best ≤ℤ value v t
greatest_by env v t z best true m e h = at_least-sound env v t z m (and_right (le_z best z) (at_least env t z) e)
greatest_by env v t z best false m e h = h

greatest_shown-le : (env : Env) (v : ℕ → ℤ) (t : Linear) (zs : List ℤ) (best : ℤ) → Meets env v → best ≤ℤ value v t → greatest_shown env t zs best ≤ℤ value v t
greatest_shown-le env v t [] best m h = h
greatest_shown-le env v t (z ∷ zs) best m h = greatest_shown-le env v t zs _ m (greatest_by env v t z best (le_z best z && at_least env t z) m refl h)

least_by : (env : Env) (v : ℕ → ℤ) (t : Linear) (z best : ℤ) (b : Bool) → Meets env v → le_z z best && at_most env t z ≡ b → value v t ≤ℤ best → value v t ≤ℤ cond b z best
least_by env v t z best true m e h = at_most-sound env v t z m (and_right (le_z z best) (at_most env t z) e)
least_by env v t z best false m e h = h

least_shown-ge : (env : Env) (v : ℕ → ℤ) (t : Linear) (zs : List ℤ) (best : ℤ) → Meets env v → value v t ≤ℤ best → value v t ≤ℤ least_shown env t zs best
least_shown-ge env v t [] best m h = h
least_shown-ge env v t (z ∷ zs) best m h = least_shown-ge env v t zs _ m (least_by env v t z best (le_z z best && at_most env t z) m refl h)

-- ---- a step
or_left : (a b : Bool) → a || b ≡ false → a ≡ false
or_left true b e = e
or_left false b e = refl

stepped_by : (lo hi x v : ℤ) (g : ℕ) (t : Bool) → (t ≡ false → 0 < g) → lo ≤ℤ v → v ≤ℤ hi → Congruent g v x → Has (cond t (record { lo = lo; hi = hi; m = 1; r = 0 }) (record { lo = lo; hi = hi; m = g; r = unsigned_abs (int_rem_euclid x (pos g)) })) v
stepped_by lo hi x v g true p l h c = record { step = omega arith; low = l; high = h; rest = (v, omega (arith, ints)) }
stepped_by lo hi x v g false p l h c =
    let s = split x g (p refl) in
    let n : unsigned_abs (int_rem_euclid x (pos g)) ≡ s.n = rw s.is refl in
    record { step = p refl; low = l; high = h; rest = rw n (c.0 +ℤ s.q, omega (arith, ints, c.1, s.sum, mul-add_left (pos g) c.0 s.q)) }

stepped-has : (lo hi x v : ℤ) (g : ℕ) → lo ≤ℤ v → v ≤ℤ hi → Congruent g v x → Has (stepped lo hi g x) v
stepped-has lo hi x v g l h c = stepped_by lo hi x v g ((g == 0) || nat_le (2 ^ 64) g) (λ e. let f : eqb g 0 ≡ false = or_left (g == 0) (nat_le (2 ^ 64) g) e in grind (arith, nat_tests)) l h c

ranged_by : (r : Span) (b : Bool) (P : Span → Type 0) → P r → IfSome (cond b (Some r) None) P
ranged_by r true P h = h
ranged_by r false P h = tt

pub ranges : (env : Env) (t : Linear) → Ranges env t (range_of env t)
ranges env t =
    ranged_by (stepped (low_of env t) (high_of env t) (modulus env.ranges t) (at_lows env.ranges t)) (nat_le (unsigned_abs (low_of env t)) (2 ^ 65) && nat_le (unsigned_abs (high_of env t)) (2 ^ 65)) _
    (λ v h k.
    let m : Meets env v = record { ranges = h; conds = k } in
    stepped-has (low_of env t) (high_of env t) (at_lows env.ranges t) (value v t) (modulus env.ranges t)
    (greatest_shown-le env v t thresholds (least env.ranges t) m (least-le env.ranges v t h))
    (least_shown-ge env v t thresholds (most env.ranges t) m (most-ge env.ranges v t h))
    (leaves_remainder env.ranges t v h))

-- ---- the code's steps: the next threshold is taken, or the bound stays
abbrev pub GreatestAfter : Env → Linear → List ℤ → ℕ → ℤ → ℤ → Type 0
GreatestAfter env t zs i best new = greatest_shown env t (drop (i + 1) zs) new ≡ greatest_shown env t (drop i zs) best

greatest_next : (env : Env) (t : Linear) (zs : List ℤ) (i : ℕ) (best new : ℤ) → i < length zs → new ≡ (if le_z best (get_or zs i (pos 0)) && at_least env t (get_or zs i (pos 0)) then get_or zs i (pos 0) else best) → GreatestAfter env t zs i best new
greatest_next env t zs i best new l e = rw (add-one, drop-cons zs i (pos 0), e) refl

pub greatest-taken : (env : Env) (t : Linear) (zs : List ℤ) (i : ℕ) (best new : ℤ) → i < length zs → le_z best (get_or zs i (pos 0)) ≡ true → at_least env t (get_or zs i (pos 0)) ≡ true → new ≡ get_or zs i (pos 0) → GreatestAfter env t zs i best new
greatest-taken env t zs i best new l a b e = greatest_next env t zs i best new l (rw (a, b) e)

pub greatest-less : (env : Env) (t : Linear) (zs : List ℤ) (i : ℕ) (best new : ℤ) → i < length zs → le_z best (get_or zs i (pos 0)) ≡ false → new ≡ best → GreatestAfter env t zs i best new
greatest-less env t zs i best new l a e = greatest_next env t zs i best new l (rw a e)

pub greatest-not : (env : Env) (t : Linear) (zs : List ℤ) (i : ℕ) (best new : ℤ) → i < length zs → le_z best (get_or zs i (pos 0)) ≡ true → at_least env t (get_or zs i (pos 0)) ≡ false → new ≡ best → GreatestAfter env t zs i best new
greatest-not env t zs i best new l a b e = greatest_next env t zs i best new l (rw (a, b) e)

abbrev pub LeastAfter : Env → Linear → List ℤ → ℕ → ℤ → ℤ → Type 0
LeastAfter env t zs i best new = least_shown env t (drop (i + 1) zs) new ≡ least_shown env t (drop i zs) best

least_next : (env : Env) (t : Linear) (zs : List ℤ) (i : ℕ) (best new : ℤ) → i < length zs → new ≡ (if le_z (get_or zs i (pos 0)) best && at_most env t (get_or zs i (pos 0)) then get_or zs i (pos 0) else best) → LeastAfter env t zs i best new
least_next env t zs i best new l e = rw (add-one, drop-cons zs i (pos 0), e) refl

pub least-taken : (env : Env) (t : Linear) (zs : List ℤ) (i : ℕ) (best new : ℤ) → i < length zs → le_z (get_or zs i (pos 0)) best ≡ true → at_most env t (get_or zs i (pos 0)) ≡ true → new ≡ get_or zs i (pos 0) → LeastAfter env t zs i best new
least-taken env t zs i best new l a b e = least_next env t zs i best new l (rw (a, b) e)

pub least-less : (env : Env) (t : Linear) (zs : List ℤ) (i : ℕ) (best new : ℤ) → i < length zs → le_z (get_or zs i (pos 0)) best ≡ false → new ≡ best → LeastAfter env t zs i best new
least-less env t zs i best new l a e = least_next env t zs i best new l (rw a e)

pub least-not : (env : Env) (t : Linear) (zs : List ℤ) (i : ℕ) (best new : ℤ) → i < length zs → le_z (get_or zs i (pos 0)) best ≡ true → at_most env t (get_or zs i (pos 0)) ≡ false → new ≡ best → LeastAfter env t zs i best new
least-not env t zs i best new l a b e = least_next env t zs i best new l (rw (a, b) e)
