-- The value of a form lies between its bounds, and leaves its remainder.
use Rattle.std.specs.Prelude.{◌≡◌, ℕ, ℤ, pos, negsuc, neg_ℤ, ◌-ℤ◌, ◌*ℤ◌, ◌*◌, ◌≤ℤ◌, unsigned_abs, Bool, true, false, List, [], ◌∷◌}
use Rattle.std.specs.Int.{◌∣◌}
use Rattle.std.proofs.Common.{arith, refl, cond}
use Rattle.std.proofs.lemmas.Int.{ints}
use Rattle.std.proofs.lemmas.Nat.Gcd.{dvd_trans, dvd_refl}
use Rattle.cx_term.specs.Forms.{Linear, value, value_parts}
use Rattle.cx_term.proofs.Ring.{mul-sub_left, neg-mul}
use Rattle.cx_entail.specs.Ranges.{Span, Congruent, low, high, stride}
use Rattle.cx_entail.specs.Joins.{gcd}
use Rattle.cx_entail.specs.Bounds.{range_at, InRanges, least_parts, least, most_parts, most, lows_parts, at_lows, modulus_with, modulus, LiesBetween, LeavesRemainder}
use Rattle.cx_entail.proofs.Congruences.{congruent_refl, congruent_divisor, congruent_add, congruent_scaled}
use Rattle.cx_entail.proofs.GcdLaws.{gcd-is}
use Rattle.cx_entail.proofs.RangeLaws.{low-le, high-ge}
use Rattle.cx_entail.proofs.JoinLaws.{stride-congruent}
use lib.Signed.{le_z}

-- the product of two numbers that are not negative is not
pub product-ge : (a b : ℤ) → pos 0 ≤ℤ a → pos 0 ≤ℤ b → pos 0 ≤ℤ (a *ℤ b)
product-ge (pos a) (pos b) g h = omega (arith, ints)
product-ge (pos a) (negsuc b) g h = absurd (omega (arith, ints))
product-ge (negsuc a) b g h = absurd (omega (arith, ints))

least_by : (c l h x : ℤ) (b : Bool) → le_z (pos 0) c ≡ b → l ≤ℤ x → x ≤ℤ h → (c *ℤ cond b l h) ≤ℤ (c *ℤ x)
least_by c l h x true e p q = omega (arith, ints, product-ge c (x -ℤ l) (omega (arith, ints)) (omega (arith, ints)), mul-sub_left c x l)
least_by c l h x false e p q = omega (arith, ints, product-ge (neg_ℤ c) (h -ℤ x) (omega (arith, ints)) (omega (arith, ints)), mul-sub_left (neg_ℤ c) h x, neg-mul c h, neg-mul c x)

most_by : (c l h x : ℤ) (b : Bool) → le_z (pos 0) c ≡ b → l ≤ℤ x → x ≤ℤ h → (c *ℤ x) ≤ℤ (c *ℤ cond b h l)
most_by c l h x true e p q = omega (arith, ints, product-ge c (h -ℤ x) (omega (arith, ints)) (omega (arith, ints)), mul-sub_left c h x)
most_by c l h x false e p q = omega (arith, ints, product-ge (neg_ℤ c) (x -ℤ l) (omega (arith, ints)) (omega (arith, ints)), mul-sub_left (neg_ℤ c) x l, neg-mul c x, neg-mul c l)

least_parts-le : (rs : List Span) (v : ℕ → ℤ) (ps : List (ℕ × ℤ)) → InRanges rs v → least_parts rs ps ≤ℤ value_parts v ps
least_parts-le rs v [] h = omega (arith, ints)
least_parts-le rs v (p ∷ ps) h =
    omega (arith, ints, least_parts-le rs v ps h, least_by p.1 (low (range_at rs p.0)) (high (range_at rs p.0)) (v p.0) (le_z (pos 0) p.1) refl (low-le (range_at rs p.0) (v p.0) (h p.0).step (h p.0)) (high-ge (range_at rs p.0) (v p.0) (h p.0).step (h p.0)))

most_parts-ge : (rs : List Span) (v : ℕ → ℤ) (ps : List (ℕ × ℤ)) → InRanges rs v → value_parts v ps ≤ℤ most_parts rs ps
most_parts-ge rs v [] h = omega (arith, ints)
most_parts-ge rs v (p ∷ ps) h =
    omega (arith, ints, most_parts-ge rs v ps h, most_by p.1 (low (range_at rs p.0)) (high (range_at rs p.0)) (v p.0) (le_z (pos 0) p.1) refl (low-le (range_at rs p.0) (v p.0) (h p.0).step (h p.0)) (high-ge (range_at rs p.0) (v p.0) (h p.0).step (h p.0)))

pub least-le : (rs : List Span) (v : ℕ → ℤ) (t : Linear) → InRanges rs v → least rs t ≤ℤ value v t
least-le rs v t h = omega (arith, ints, least_parts-le rs v t.parts h)

pub most-ge : (rs : List Span) (v : ℕ → ℤ) (t : Linear) → InRanges rs v → value v t ≤ℤ most rs t
most-ge rs v t h = omega (arith, ints, most_parts-ge rs v t.parts h)

pub lies_between : (rs : List Span) (t : Linear) → LiesBetween rs t (least rs t) (most rs t)
lies_between rs t = λ v h. (least-le rs v t h, most-ge rs v t h)

modulus_with-divides : (rs : List Span) (m : ℕ) (ps : List (ℕ × ℤ)) → modulus_with rs m ps ∣ m
modulus_with-divides rs m [] = dvd_refl m
modulus_with-divides rs m (p ∷ ps) =
    let n = unsigned_abs p.1 * stride (range_at rs p.0) in
    dvd_trans (modulus_with rs (gcd m n) ps) (modulus_with-divides rs (gcd m n) ps) (gcd-is m n).0

parts_congruent : (rs : List Span) (v : ℕ → ℤ) (m : ℕ) (ps : List (ℕ × ℤ)) → InRanges rs v → Congruent (modulus_with rs m ps) (value_parts v ps) (lows_parts rs ps)
parts_congruent rs v m [] h = congruent_refl m (pos 0)
parts_congruent rs v m (p ∷ ps) h =
    let a = range_at rs p.0 in
    let n = unsigned_abs p.1 * stride a in
    let g = modulus_with rs (gcd m n) ps in
    let d = dvd_trans g (modulus_with-divides rs (gcd m n) ps) (gcd-is m n).1 in
    let s = congruent_scaled (stride a) p.1 (v p.0) (low a) (stride-congruent a (v p.0) (h p.0)) in
    congruent_add g (p.1 *ℤ v p.0) (p.1 *ℤ low a) (value_parts v ps) (lows_parts rs ps) (congruent_divisor g n (p.1 *ℤ v p.0) (p.1 *ℤ low a) d s) (parts_congruent rs v (gcd m n) ps h)

pub leaves_remainder : (rs : List Span) (t : Linear) → LeavesRemainder rs t (modulus rs t) (at_lows rs t)
leaves_remainder rs t = λ v h. let c = parts_congruent rs v 0 t.parts h in (c.0, omega (arith, ints, c.1))
