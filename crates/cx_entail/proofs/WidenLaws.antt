-- The widened join holds the numbers of both.
use Rattle.std.specs.Prelude.{◌≡◌, ℤ, pos, neg_ℤ, ◌≤ℤ◌, ◌^◌, Bool, true, false, ◌&&◌, List, [], ◌∷◌}
use Rattle.std.proofs.Common.{arith, refl, cond, inl, inr}
use Rattle.std.proofs.lemmas.Int.{ints}
use Rattle.cx_term.proofs.Tests.{and_left}
use Rattle.cx_entail.specs.Ranges.{Span, IsRange, Has, first, last, low, high}
use Rattle.cx_entail.specs.Joins.{join_of, greatest_up_to, least_from, widened_low, widened_high, widen_of, HasBoth}
use Rattle.cx_entail.proofs.RangeLaws.{low-le, high-ge, first-lo, last-hi}
use Rattle.cx_entail.proofs.JoinLaws.{join-has}
use lib.Signed.{le_z}

up_to_by : (z t best : ℤ) (b : Bool) → le_z t z && le_z best t ≡ b → best ≤ℤ z → cond b t best ≤ℤ z
up_to_by z t best true e h = let f : le_z t z ≡ true = and_left (le_z t z) (le_z best t) e in omega (arith, ints, f)
up_to_by z t best false e h = h

pub greatest_up_to-le : (z : ℤ) (ts : List ℤ) (best : ℤ) → best ≤ℤ z → greatest_up_to z ts best ≤ℤ z
greatest_up_to-le z [] best h = h
greatest_up_to-le z (t ∷ ts) best h = greatest_up_to-le z ts _ (up_to_by z t best (le_z t z && le_z best t) refl h)

from_by : (z t best : ℤ) (b : Bool) → le_z z t && le_z t best ≡ b → z ≤ℤ best → z ≤ℤ cond b t best
from_by z t best true e h = let f : le_z z t ≡ true = and_left (le_z z t) (le_z t best) e in omega (arith, ints, f)
from_by z t best false e h = h

pub least_from-ge : (z : ℤ) (ts : List ℤ) (best : ℤ) → z ≤ℤ best → z ≤ℤ least_from z ts best
least_from-ge z [] best h = h
least_from-ge z (t ∷ ts) best h = least_from-ge z ts _ (from_by z t best (le_z z t && le_z t best) refl h)

low_size_by : (a : Span) (b : Bool) → le_z (first a) a.hi ≡ b → IsRange a → neg_ℤ (pos (2 ^ 65)) ≤ℤ cond b (first a) a.lo
low_size_by a true e h = omega (arith, ints, first-lo a h.positive, h.low)
low_size_by a false e h = omega (arith, ints, h.low)

high_size_by : (a : Span) (b : Bool) → le_z a.lo (last a) ≡ b → IsRange a → cond b (last a) a.hi ≤ℤ pos (2 ^ 65)
high_size_by a true e h = omega (arith, ints, last-hi a h.positive, h.high)
high_size_by a false e h = omega (arith, ints, h.high)

wide_low_by : (a b : Span) (ts : List ℤ) (t : Bool) → le_z (low a) (low b) ≡ t → IsRange b → (cond t (low a) (greatest_up_to (low b) ts (neg_ℤ (pos (2 ^ 65)))) ≤ℤ low a) × (cond t (low a) (greatest_up_to (low b) ts (neg_ℤ (pos (2 ^ 65)))) ≤ℤ low b)
wide_low_by a b ts true e h = (omega (arith, ints), omega (arith, ints))
wide_low_by a b ts false e h =
    let l = greatest_up_to-le (low b) ts (neg_ℤ (pos (2 ^ 65))) (low_size_by b (le_z (first b) b.hi) refl h) in
    (omega (arith, ints, e, l), l)

wide_high_by : (a b : Span) (ts : List ℤ) (t : Bool) → le_z (high b) (high a) ≡ t → IsRange b → (high a ≤ℤ cond t (high a) (least_from (high b) ts (pos (2 ^ 65)))) × (high b ≤ℤ cond t (high a) (least_from (high b) ts (pos (2 ^ 65))))
wide_high_by a b ts true e h = (omega (arith, ints), omega (arith, ints))
wide_high_by a b ts false e h =
    let l = least_from-ge (high b) ts (pos (2 ^ 65)) (high_size_by b (le_z b.lo (last b)) refl h) in
    (omega (arith, ints, e, l), l)

widened : (a b : Span) (ts : List ℤ) (v : ℤ) → (widened_low a b ts ≤ℤ v) → (v ≤ℤ widened_high a b ts) → Has (join_of a b) v → Has (widen_of a b ts) v
widened a b ts v l h j = record { step = j.step; low = l; high = h; rest = j.rest }

pub widen-has : (a b : Span) (ts : List ℤ) → IsRange b → HasBoth a b (widen_of a b ts)
widen-has a b ts k v (inl h) =
    let l = wide_low_by a b ts (le_z (low a) (low b)) refl k in
    let u = wide_high_by a b ts (le_z (high b) (high a)) refl k in
    widened a b ts v (omega (arith, ints, l.0, low-le a v h.step h)) (omega (arith, ints, u.0, high-ge a v h.step h)) (join-has a b v (inl h))
widen-has a b ts k v (inr h) =
    let l = wide_low_by a b ts (le_z (low a) (low b)) refl k in
    let u = wide_high_by a b ts (le_z (high b) (high a)) refl k in
    widened a b ts v (omega (arith, ints, l.1, low-le b v h.step h)) (omega (arith, ints, u.1, high-ge b v h.step h)) (join-has a b v (inr h))
