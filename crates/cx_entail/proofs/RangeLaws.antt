-- The ends of a range.
use Rattle.std.specs.Prelude.{◌≡◌, ℤ, pos, ◌+ℤ◌, ◌-ℤ◌, ◌*ℤ◌, ◌≤ℤ◌, ◌<ℤ◌, ◌<◌, neg_ℤ, Bool, true, false}
use Rattle.std.proofs.Common.{arith, refl, cond}
use Rattle.std.proofs.lemmas.Int.{ints}
use Rattle.cx_term.proofs.Ring.{mul-add_left, mul-neg, mul-sub_left}
use Rattle.cx_entail.specs.Ranges.{Span, Congruent, Has, first, last, low, high}
use Rattle.cx_entail.proofs.Euclid.{split, not_negative, scaled_up}
use lib.Signed.{le_z}

pub first-congruent : (a : Span) → 0 < a.m → Congruent a.m (first a) (pos a.r)
first-congruent a p = let s = split (pos a.r -ℤ a.lo) a.m p in (neg_ℤ s.q, omega (arith, ints, s.is, s.sum, mul-neg (pos a.m) s.q))

-- no number of the range is less
pub first-le : (a : Span) (v : ℤ) → 0 < a.m → Has a v → first a ≤ℤ v
first-le a v p h =
    let s = split (pos a.r -ℤ a.lo) a.m p in
    let d : v ≡ first a +ℤ pos a.m *ℤ (h.rest.0 +ℤ s.q) = omega (arith, ints, s.is, s.sum, h.rest.1, mul-add_left (pos a.m) h.rest.0 s.q) in
    let g : neg_ℤ (pos a.m) <ℤ (pos a.m *ℤ (h.rest.0 +ℤ s.q)) = omega (arith, ints, d, h.low, s.is, s.below) in
    omega (arith, ints, d, scaled_up a.m (h.rest.0 +ℤ s.q) (not_negative a.m (h.rest.0 +ℤ s.q) g))

pub last-ge : (a : Span) (v : ℤ) → 0 < a.m → Has a v → v ≤ℤ last a
last-ge a v p h =
    let s = split (a.hi -ℤ pos a.r) a.m p in
    let d : last a ≡ v +ℤ pos a.m *ℤ (s.q -ℤ h.rest.0) = omega (arith, ints, s.is, s.sum, h.rest.1, mul-sub_left (pos a.m) s.q h.rest.0) in
    let g : neg_ℤ (pos a.m) <ℤ (pos a.m *ℤ (s.q -ℤ h.rest.0)) = omega (arith, ints, d, h.high, s.is, s.below) in
    omega (arith, ints, d, scaled_up a.m (s.q -ℤ h.rest.0) (not_negative a.m (s.q -ℤ h.rest.0) g))

last-congruent : (a : Span) → 0 < a.m → Congruent a.m (last a) (pos a.r)
last-congruent a p = let s = split (a.hi -ℤ pos a.r) a.m p in (s.q, omega (arith, ints, s.is, s.sum))

pub first-lo : (a : Span) → 0 < a.m → a.lo ≤ℤ first a
first-lo a p = let s = split (pos a.r -ℤ a.lo) a.m p in omega (arith, ints, s.is)

pub last-hi : (a : Span) → 0 < a.m → last a ≤ℤ a.hi
last-hi a p = let s = split (a.hi -ℤ pos a.r) a.m p in omega (arith, ints, s.is)

low_by : (a : Span) (v : ℤ) (b : Bool) → le_z (first a) a.hi ≡ b → 0 < a.m → Has a v → cond b (first a) a.lo ≤ℤ v
low_by a v true e p h = first-le a v p h
low_by a v false e p h = h.low

high_by : (a : Span) (v : ℤ) (b : Bool) → le_z a.lo (last a) ≡ b → 0 < a.m → Has a v → v ≤ℤ cond b (last a) a.hi
high_by a v true e p h = last-ge a v p h
high_by a v false e p h = h.high

-- every number of the range lies between its ends
pub low-le : (a : Span) (v : ℤ) → 0 < a.m → Has a v → low a ≤ℤ v
low-le a v p h = low_by a v (le_z (first a) a.hi) refl p h

pub high-ge : (a : Span) (v : ℤ) → 0 < a.m → Has a v → v ≤ℤ high a
high-ge a v p h = high_by a v (le_z a.lo (last a)) refl p h

-- where the range has a number, its ends are numbers of it
pub low-has : (a : Span) (v : ℤ) → 0 < a.m → Has a v → Has a (low a)
low-has a v p h =
    let l = first-le a v p h in
    let t : true ≡ le_z (first a) a.hi = omega (arith, ints, l, h.high) in
    rw (← t) (record { step = p; low = first-lo a p; high = omega (arith, ints, l, h.high); rest = first-congruent a p })

pub high-has : (a : Span) (v : ℤ) → 0 < a.m → Has a v → Has a (high a)
high-has a v p h =
    let l = last-ge a v p h in
    let t : true ≡ le_z a.lo (last a) = omega (arith, ints, l, h.low) in
    rw (← t) (record { step = p; low = omega (arith, ints, l, h.low); high = last-hi a p; rest = last-congruent a p })
