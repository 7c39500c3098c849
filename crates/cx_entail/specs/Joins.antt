-- The join of two ranges, and its widening.
use Rattle.std.specs.Prelude.{ℕ, zero, suc, ℤ, pos, neg_ℤ, ◌-ℤ◌, ◌^◌, ◌%◌, unsigned_abs, if◌then◌else◌, ◌==◌, ◌||◌, ◌&&◌, nat_le, List, [], ◌∷◌, ◌≤◌, ◌⊎◌}
use Rattle.std.specs.List.{AllByRecursion}
use Rattle.std.specs.Int.{int_rem_euclid}
use Rattle.cx_entail.specs.Ranges.{Span, Has, low, high, has_any, stride}
use lib.Signed.{le_z}

-- Euclid's steps, at most n of them
abbrev pub gcd_in : ℕ → ℕ → ℕ → ℕ
gcd_in zero a b = a
gcd_in (suc n) a b = if b == 0 then a else gcd_in n b (a % b)

-- the greatest common divisor
unfoldable pub gcd : ℕ → ℕ → ℕ
gcd a b = gcd_in (suc b) a b

abbrev pub lesser : ℤ → ℤ → ℤ
lesser a b = if le_z a b then a else b

abbrev pub greater : ℤ → ℤ → ℤ
greater a b = if le_z a b then b else a

-- the numbers from lo to hi that are x modulo g, all of them where g is 0 or at least 2^64
abbrev pub stepped : ℤ → ℤ → ℕ → ℤ → Span
stepped lo hi g x =
    if (g == 0) || nat_le (2 ^ 64) g
    then record { lo = lo; hi = hi; m = 1; r = 0 }
    else record { lo = lo; hi = hi; m = g; r = unsigned_abs (int_rem_euclid x (pos g)) }

-- the join of two ranges that have numbers: its step is the gcd of both strides and of the distance of the lows
abbrev pub joined : Span → Span → Span
joined a b =
    stepped (lesser (low a) (low b)) (greater (high a) (high b)) (gcd (gcd (stride a) (stride b)) (unsigned_abs (low a -ℤ low b))) (low a)

-- the join, which is the one range where the other has no number
abbrev pub join_of : Span → Span → Span
join_of a b = if has_any a then (if has_any b then joined a b else a) else b

-- the greatest of the thresholds not above z, and of best
abbrev pub greatest_up_to : ℤ → List ℤ → ℤ → ℤ
greatest_up_to z [] best = best
greatest_up_to z (t ∷ ts) best = greatest_up_to z ts (if le_z t z && le_z best t then t else best)

-- the least of the thresholds not below z, and of best
abbrev pub least_from : ℤ → List ℤ → ℤ → ℤ
least_from z [] best = best
least_from z (t ∷ ts) best = least_from z ts (if le_z z t && le_z t best then t else best)

-- a's low where b's is not less, else the greatest threshold not above b's low, else -2^65
abbrev pub widened_low : Span → Span → List ℤ → ℤ
widened_low a b ts = if le_z (low a) (low b) then low a else greatest_up_to (low b) ts (neg_ℤ (pos (2 ^ 65)))

-- a's high where b's is not greater, else the least threshold not below b's high, else 2^65
abbrev pub widened_high : Span → Span → List ℤ → ℤ
widened_high a b ts = if le_z (high b) (high a) then high a else least_from (high b) ts (pos (2 ^ 65))

-- the join with its ends widened
abbrev pub widen_of : Span → Span → List ℤ → Span
widen_of a b ts = record (join_of a b) { lo = widened_low a b ts; hi = widened_high a b ts }

-- thresholds that can be ends of a range
abbrev pub AreEnds : List ℤ → Type 0
AreEnds ts = AllByRecursion (λ t. unsigned_abs t ≤ 2 ^ 65) ts

-- every number of a or of b is one of c
abbrev pub HasBoth : Span → Span → Span → Type 0
HasBoth a b c = (v : ℤ) → (Has a v) ⊎ (Has b v) → Has c v
