-- The join holds the numbers of both.
use Rattle.std.specs.Prelude.{◌≡◌, ℕ, ℤ, pos, ◌+ℤ◌, ◌-ℤ◌, ◌≤ℤ◌, ◌<◌, ◌^◌, unsigned_abs, Bool, true, false, ◌==◌, ◌||◌, nat_le, ◌⊎◌}
use Rattle.std.specs.Int.{int_rem_euclid}
use Rattle.std.proofs.Common.{arith, refl, cond, eqb, inl, inr}
use Rattle.std.proofs.lemmas.Int.{ints}
use Rattle.std.proofs.lemmas.Bool.Decides.{nat_tests}
use Rattle.std.proofs.lemmas.Nat.Gcd.{dvd_trans}
use Rattle.cx_term.proofs.Tests.{or_false}
use Rattle.cx_term.proofs.Ring.{mul-add_left}
use Rattle.cx_entail.specs.Ranges.{Span, Congruent, Has, low, high, has_any, stride}
use Rattle.cx_entail.specs.Joins.{gcd, stepped, joined, join_of}
use Rattle.cx_entail.proofs.Euclid.{split}
use Rattle.cx_entail.proofs.Congruences.{congruent_refl, congruent_sym, congruent_trans, congruent_divisor, congruent_distance, zero_distance}
use Rattle.cx_entail.proofs.GcdLaws.{gcd-is}
use Rattle.cx_entail.proofs.RangeLaws.{first-le, low-le, high-ge, low-has}
use lib.Signed.{le_z}

-- every number of the range is its least one modulo its stride
stride_by : (a : Span) (v : ℤ) (t : Bool) → eqb (unsigned_abs (low a -ℤ high a)) 0 ≡ t → Has a v → Congruent (cond t 0 a.m) v (low a)
stride_by a v true e h =
    let f : low a ≡ high a = zero_distance (low a) (high a) (grind (arith, nat_tests)) in
    let g : v ≡ low a = omega (arith, ints, f, low-le a v h.step h, high-ge a v h.step h) in
    rw g (congruent_refl 0 (low a))
stride_by a v false e h = congruent_trans a.m v (pos a.r) (low a) h.rest (congruent_sym a.m (low a) (pos a.r) (low-has a v h.step h).rest)

pub stride-congruent : (a : Span) (v : ℤ) → Has a v → Congruent (stride a) v (low a)
stride-congruent a v h = stride_by a v (eqb (unsigned_abs (low a -ℤ high a)) 0) refl h

-- ---- the stepped range
stepped_by : (lo hi x v : ℤ) (g : ℕ) (t : Bool) → (t ≡ false → 0 < g) → lo ≤ℤ v → v ≤ℤ hi → Congruent g v x → Has (cond t (record { lo = lo; hi = hi; m = 1; r = 0 }) (record { lo = lo; hi = hi; m = g; r = unsigned_abs (int_rem_euclid x (pos g)) })) v
stepped_by lo hi x v g true p l h c = record { step = omega arith; low = l; high = h; rest = (v, omega (arith, ints)) }
stepped_by lo hi x v g false p l h c =
    let s = split x g (p refl) in
    let n : unsigned_abs (int_rem_euclid x (pos g)) ≡ s.n = rw s.is refl in
    record { step = p refl; low = l; high = h; rest = rw n (c.0 +ℤ s.q, omega (arith, ints, c.1, s.sum, mul-add_left (pos g) c.0 s.q)) }

stepped-has : (lo hi x v : ℤ) (g : ℕ) → lo ≤ℤ v → v ≤ℤ hi → Congruent g v x → Has (stepped lo hi g x) v
stepped-has lo hi x v g l h c = stepped_by lo hi x v g ((g == 0) || nat_le (2 ^ 64) g) (λ e. let f : eqb g 0 ≡ false = or_false (g == 0) (nat_le (2 ^ 64) g) e in grind (arith, nat_tests)) l h c

lesser_by : (a b : ℤ) (t : Bool) → le_z a b ≡ t → (cond t a b ≤ℤ a) × (cond t a b ≤ℤ b)
lesser_by a b true e = (omega (arith, ints), omega (arith, ints))
lesser_by a b false e = (omega (arith, ints), omega (arith, ints))

greater_by : (a b : ℤ) (t : Bool) → le_z a b ≡ t → (a ≤ℤ cond t b a) × (b ≤ℤ cond t b a)
greater_by a b true e = (omega (arith, ints), omega (arith, ints))
greater_by a b false e = (omega (arith, ints), omega (arith, ints))

joined-left : (a b : Span) (v : ℤ) → Has a v → Has (joined a b) v
joined-left a b v h =
    let g = gcd (gcd (stride a) (stride b)) (unsigned_abs (low a -ℤ low b)) in
    let i = gcd-is (gcd (stride a) (stride b)) (unsigned_abs (low a -ℤ low b)) in
    let j = gcd-is (stride a) (stride b) in
    let l = lesser_by (low a) (low b) _ refl in
    let m = greater_by (high a) (high b) _ refl in
    stepped-has _ _ (low a) v g (omega (arith, ints, l.0, low-le a v h.step h)) (omega (arith, ints, m.0, high-ge a v h.step h))
    (congruent_divisor g (stride a) v (low a) (dvd_trans g i.0 j.0) (stride-congruent a v h))

joined-right : (a b : Span) (v : ℤ) → Has b v → Has (joined a b) v
joined-right a b v h =
    let g = gcd (gcd (stride a) (stride b)) (unsigned_abs (low a -ℤ low b)) in
    let i = gcd-is (gcd (stride a) (stride b)) (unsigned_abs (low a -ℤ low b)) in
    let j = gcd-is (stride a) (stride b) in
    let l = lesser_by (low a) (low b) _ refl in
    let m = greater_by (high a) (high b) _ refl in
    stepped-has _ _ (low a) v g (omega (arith, ints, l.1, low-le b v h.step h)) (omega (arith, ints, m.1, high-ge b v h.step h))
    (congruent_trans g v (low b) (low a) (congruent_divisor g (stride b) v (low b) (dvd_trans g i.0 j.1) (stride-congruent b v h)) (congruent_sym g (low a) (low b) (congruent_distance g (low a) (low b) i.1)))

-- a range with a number has one by the test
any_true : (a : Span) (v : ℤ) → Has a v → true ≡ has_any a
any_true a v h = let l = first-le a v h.step h in omega (arith, ints, l, h.high)

left_by : (a b : Span) (v : ℤ) (s t : Bool) → true ≡ s → Has a v → Has (cond s (cond t (joined a b) a) b) v
left_by a b v true true e h = joined-left a b v h
left_by a b v true false e h = h
left_by a b v false t e h = absurd (cc)

right_by : (a b : Span) (v : ℤ) (s t : Bool) → true ≡ t → Has b v → Has (cond s (cond t (joined a b) a) b) v
right_by a b v true true e h = joined-right a b v h
right_by a b v true false e h = absurd (cc)
right_by a b v false t e h = h

pub join-left : (a b : Span) (v : ℤ) → Has a v → Has (join_of a b) v
join-left a b v h = left_by a b v (has_any a) (has_any b) (any_true a v h) h

pub join-right : (a b : Span) (v : ℤ) → Has b v → Has (join_of a b) v
join-right a b v h = right_by a b v (has_any a) (has_any b) (any_true b v h) h

pub join-has : (a b : Span) (v : ℤ) → (Has a v) ⊎ (Has b v) → Has (join_of a b) v
join-has a b v (inl h) = join-left a b v h
join-has a b v (inr h) = join-right a b v h
