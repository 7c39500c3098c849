-- Sums, differences and complements in an integer type.
use Rattle.std.proofs.Common.{ℕ, zero, suc, ℤ, pos, negsuc, ◌≡◌, ◌+◌, ◌-◌, ◌*◌, ◌^◌, ◌<◌, ◌%◌, ◌+ℤ◌, ◌-ℤ◌, ◌*ℤ◌, ◌≤ℤ◌, Bool, true, false, refl, sym, ap, ◌∙◌, arith}
use Rattle.std.specs.Prelude.{nat_abs, bit_xor}
use Rattle.std.specs.Int.{int_rem_euclid, bit_at}
use Rattle.std.proofs.Math.IntN.{+ℤ_assoc, zero-*ℤ}
use Rattle.std.proofs.lemmas.Int.{ints}
use Rattle.std.proofs.lemmas.Nat.{xor_lt, pow_pos}
use Rattle.std.proofs.lemmas.Nat.Bits.{same_from_bits_below, bit_at_xor, bit_at_ones, bit_at-lt, bit_at_not}
use mir.Syntax.{w8, w16, w32, w64}
use mir.Val.{bits}
use Rattle.std.specs.Int.{Width}
use Rattle.cx_base.specs.Number.{Congruent, HasSize, wrapped, half_of}
use Rattle.cx_base.specs.declared.number.CInt.{CInt}
use Rattle.cx_base.proofs.Sizes.{at_sizes}
use Rattle.cx_base.proofs.Wrapping.{dist, rest_congruent, rest_below, wrapped-Congruent, wrapped-InRange, only_wrapped, congruent_chain}
use Rattle.cx_cconst.specs.Constants as constants
use Rattle.cx_cconst.specs.Constants.{converted}
use Rattle.cx_ctree.specs.Conversions.{unsigned_long}

pub same_wrapped : (size : ℕ) (signed : Bool) (a b : ℤ) → HasSize size → Congruent size a b → wrapped size signed a ≡ wrapped size signed b
same_wrapped size signed a b h c = only_wrapped size signed b (wrapped size signed a) h (wrapped-InRange size signed a h) (congruent_chain size _ a b (wrapped-Congruent size signed a h) c)

-- a sum gives the same where one of its parts was wrapped before
pub sum_right : (x z : ℤ) → converted unsigned_long (x +ℤ converted unsigned_long z) ≡ converted unsigned_long (x +ℤ z)
sum_right x z =
    let c = wrapped-Congruent 8 false z refl in
    same_wrapped 8 false (x +ℤ wrapped 8 false z) (x +ℤ z) refl (c.0, ap (λ u. x +ℤ u) c.1 ∙ sym (+ℤ_assoc x z (c.0 *ℤ pos (2 ^ 64))))

swap : (x y : ℤ) → x +ℤ y ≡ y +ℤ x
swap x y = omega (arith, ints)

pub sum_left : (x z : ℤ) → converted unsigned_long (converted unsigned_long z +ℤ x) ≡ converted unsigned_long (x +ℤ z)
sum_left x z = ap (converted unsigned_long) (swap (converted unsigned_long z) x) ∙ sum_right x z

negated : (k m : ℤ) → (pos 0 -ℤ k) *ℤ m ≡ pos 0 -ℤ k *ℤ m
negated k m = let e = dist (pos 0 -ℤ k) m k in let f : (pos 0 -ℤ k) +ℤ k ≡ pos 0 = omega (arith, ints) in let g = sym e ∙ ap (λ x. x *ℤ m) f ∙ zero-*ℤ m in omega (arith, ints, g)

taken_away : (x w z k : ℤ) → w ≡ z +ℤ k → x -ℤ w ≡ (x -ℤ z) +ℤ (pos 0 -ℤ k)
taken_away x w z k e = omega (arith, ints, e)

pub difference_right : (x z : ℤ) → converted unsigned_long (x -ℤ converted unsigned_long z) ≡ converted unsigned_long (x -ℤ z)
difference_right x z =
    let c = wrapped-Congruent 8 false z refl in
    same_wrapped 8 false (x -ℤ wrapped 8 false z) (x -ℤ z) refl
    (pos 0 -ℤ c.0, taken_away x (wrapped 8 false z) z (c.0 *ℤ pos (2 ^ 64)) c.1 ∙ ap (λ u. (x -ℤ z) +ℤ u) (sym (negated c.0 (pos (2 ^ 64)))))

-- ---- complements

one_less : (a b : ℕ) → a < 2 → b ≡ 1 → (a + b) % 2 ≡ 1 - a
one_less zero b h e = ap (λ b. (0 + b) % 2) e
one_less (suc zero) b h e = ap (λ b. (1 + b) % 2) e
one_less (suc (suc a)) b h e = absurd (omega arith)

xor_ones : (w : Width) (n : ℕ) → n < 2 ^ bits w → bit_xor n (2 ^ bits w - 1) ≡ 2 ^ bits w - 1 - n
xor_ones w n h =
    let p = pow_pos (bits w) in
    same_from_bits_below (bits w) _ _ (xor_lt (bits w) n (2 ^ bits w - 1) h (omega (arith, p))) (omega (arith, p))
    (λ i l. bit_at_xor n (2 ^ bits w - 1) i ∙ one_less (bit_at n i) (bit_at (2 ^ bits w - 1) i) (bit_at-lt n i) (bit_at_ones (bits w) i l) ∙ sym (bit_at_not w n i h l))

xor_at : (size n : ℕ) → HasSize size → n < 2 ^ (8 * size) → bit_xor n (2 ^ (8 * size) - 1) ≡ 2 ^ (8 * size) - 1 - n
xor_at size n = at_sizes (λ s. n < 2 ^ (8 * s) → bit_xor n (2 ^ (8 * s) - 1) ≡ 2 ^ (8 * s) - 1 - n) (xor_ones w8 n) (xor_ones w16 n) (xor_ones w32 n) (xor_ones w64 n) size

natural : (z : ℤ) → pos 0 ≤ℤ z → z ≡ pos (nat_abs z)
natural (pos n) h = refl
natural (negsuc n) h = absurd (omega (arith, ints))

all_ones : (size : ℕ) (signed : Bool) → HasSize size → nat_abs (int_rem_euclid (wrapped size signed (negsuc 0)) (pos (2 ^ (8 * size)))) ≡ 2 ^ (8 * size) - 1
unfolding half_of
all_ones size true h = at_sizes (λ s. nat_abs (int_rem_euclid (wrapped s true (negsuc 0)) (pos (2 ^ (8 * s)))) ≡ 2 ^ (8 * s) - 1) refl refl refl refl size h
all_ones size false h = at_sizes (λ s. nat_abs (int_rem_euclid (wrapped s false (negsuc 0)) (pos (2 ^ (8 * s)))) ≡ 2 ^ (8 * s) - 1) refl refl refl refl size h

one_time : (m : ℕ) → pos 1 *ℤ pos m ≡ pos m
one_time m = ap pos (let e : 1 * m ≡ m = omega arith in e)

-- what is left of the modulus is congruent to the complement
left_over : (n m : ℕ) (v k : ℤ) → n < m → pos n ≡ v +ℤ k *ℤ pos m → pos (m - 1 - n) ≡ (pos 0 -ℤ pos 1 -ℤ v) +ℤ ((pos 0 -ℤ k) +ℤ pos 1) *ℤ pos m
left_over n m v k h e =
    let f : ((pos 0 -ℤ k) +ℤ pos 1) *ℤ pos m ≡ (pos 0 -ℤ k *ℤ pos m) +ℤ pos m = dist (pos 0 -ℤ k) (pos m) (pos 1) ∙ ap (λ x. x +ℤ pos 1 *ℤ pos m) (negated k (pos m)) ∙ ap (λ x. (pos 0 -ℤ k *ℤ pos m) +ℤ x) (one_time m) in
    rw f (omega (arith, ints, h, e))

pub complement_is : (t : CInt) (v : ℤ) → converted t (pos (bit_xor (constants.bits t v) (constants.bits t (converted t (negsuc 0))))) ≡ converted t (pos 0 -ℤ pos 1 -ℤ v)
complement_is t v =
    let m = 2 ^ (8 * t.size) in let h : HasSize t.size = t.known in
    let c = rest_congruent v m (pow_pos (8 * t.size)) in let b = rest_below v m (pow_pos (8 * t.size)) in
    let e : int_rem_euclid v (pos m) ≡ pos (constants.bits t v) = natural (int_rem_euclid v (pos m)) b.0 in
    let low : constants.bits t v < m = let f = b.1 in omega (arith, ints, e, f) in
    ap (λ o. converted t (pos (bit_xor (constants.bits t v) o))) (all_ones t.size t.signed h) ∙ ap (λ x. converted t (pos x)) (xor_at t.size (constants.bits t v) h low)
    ∙ same_wrapped t.size t.signed (pos (m - 1 - constants.bits t v)) (pos 0 -ℤ pos 1 -ℤ v) h ((pos 0 -ℤ c.0) +ℤ pos 1, left_over (constants.bits t v) m v c.0 low (sym e ∙ c.1))
