-- The wrapped number is in the range, is congruent to what was wrapped, and is the only such number.
use Rattle.std.proofs.Common.{ℕ, zero, suc, ◌≡◌, ◌+◌, ◌*◌, ◌/◌, ◌%◌, ◌-◌, ◌<◌, ◌^◌, refl, sym, ap, ◌∙◌, arith, Bool, true, false, cond, ℤ, pos, negsuc, ◌+ℤ◌, ◌-ℤ◌, ◌*ℤ◌, ◌≤ℤ◌, ◌<ℤ◌, ◌&&◌, int_le, subst}
use Rattle.std.proofs.Math.IntN.{neg_ℤ, zero-*ℤ, negsuc-*ℤ-pos, -ℤ_one, pred_ℤ-*ℤ, suc_ℤ-*ℤ, +ℤ_one, +ℤ_idr, +ℤ_assoc, ℤ_ind, -ℤ-+ℤ_cancel}
use Rattle.std.proofs.lemmas.Nat.{div-add-mod', mod_below}
use Rattle.std.proofs.lemmas.Int.{ints}
use Rattle.std.specs.Int.{int_rem_euclid}
use Rattle.cx_base.specs.Number.{HasSize, InRange, Congruent, wrapped, half_of}
use Rattle.cx_base.proofs.Sizes.{half_positive, two_halves}

pub neg-mul : (q m : ℕ) → neg_ℤ (pos q) *ℤ pos m ≡ neg_ℤ (pos (q * m))
neg-mul zero m = zero-*ℤ (pos m) ∙ ap (λ n. neg_ℤ (pos n)) (let e : 0 ≡ 0 * m = omega arith in e)
neg-mul (suc q) m = negsuc-*ℤ-pos q m

negative_rest : (a q r m n : ℕ) → q + r ≡ a → r < m → n ≡ q + m → pos (m - 1 - r) ≡ negsuc a +ℤ pos n
negative_rest a q r m n e b f = omega (arith, ints)

pub rest_congruent : (v : ℤ) (m : ℕ) → 0 < m → (k : ℤ) × (int_rem_euclid v (pos m) ≡ v +ℤ k *ℤ pos m)
rest_congruent (pos a) m h =
    (neg_ℤ (pos (a / m)), rw (neg-mul (a / m) m) (let e = div-add-mod' a m in omega (arith, ints, e)))
rest_congruent (negsuc a) m h =
    (pos (a / m + 1), negative_rest a (a / m * m) (a % m) m ((a / m + 1) * m) (div-add-mod' a m) (mod_below a m h) (grind arith))

pub rest_below : (v : ℤ) (m : ℕ) → 0 < m → (pos 0 ≤ℤ int_rem_euclid v (pos m)) × (int_rem_euclid v (pos m) <ℤ pos m)
rest_below (pos a) m h = let b = mod_below a m h in (omega (arith, ints), omega (arith, ints, b))
rest_below (negsuc a) m h = let b = mod_below a m h in (omega (arith, ints), omega (arith, ints, b))

-- one more turn of the modulus
pub less_one : (r v k : ℤ) (m : ℕ) → r ≡ v +ℤ k *ℤ pos m → r -ℤ pos m ≡ v +ℤ (k -ℤ pos 1) *ℤ pos m
less_one r v k m e = rw (sub_one-mul k m) (omega (arith, ints, e))
  where
    sub_one-mul : (k : ℤ) (m : ℕ) → (k -ℤ pos 1) *ℤ pos m ≡ k *ℤ pos m -ℤ pos m
    sub_one-mul k m = ap (λ x. x *ℤ pos m) (-ℤ_one k) ∙ pred_ℤ-*ℤ k (pos m)

-- the wrapped number, by half of the number of values
wrapped_by : ℕ → Bool → ℤ → ℤ
wrapped_by half signed v =
    cond (signed && int_le (pos half) (int_rem_euclid v (pos (2 * half)))) (int_rem_euclid v (pos (2 * half)) -ℤ pos (2 * half)) (int_rem_euclid v (pos (2 * half)))

by_half-congruent : (half : ℕ) (signed : Bool) (v : ℤ) → 0 < half → (k : ℤ) × (wrapped_by half signed v ≡ v +ℤ k *ℤ pos (2 * half))
unfolding wrapped_by
by_half-congruent half signed v h = by_test (signed && int_le (pos half) (int_rem_euclid v (pos (2 * half))))
  where
    rest : (k : ℤ) × (int_rem_euclid v (pos (2 * half)) ≡ v +ℤ k *ℤ pos (2 * half))
    rest = rest_congruent v (2 * half) (omega arith)

    by_test : (b : Bool) → (k : ℤ) × (cond b (int_rem_euclid v (pos (2 * half)) -ℤ pos (2 * half)) (int_rem_euclid v (pos (2 * half))) ≡ v +ℤ k *ℤ pos (2 * half))
    by_test true = (rest.0 -ℤ pos 1, less_one (int_rem_euclid v (pos (2 * half))) v rest.0 (2 * half) rest.1)
    by_test false = rest

pub wrapped-Congruent : (size : ℕ) (signed : Bool) (v : ℤ) → HasSize size → Congruent size (wrapped size signed v) v
unfolding wrapped_by
wrapped-Congruent size signed v h =
    let c = by_half-congruent (half_of size) signed v (half_positive size h) in
    subst (λ (m : ℕ). (k : ℤ) × (wrapped size signed v ≡ v +ℤ k *ℤ pos m)) (sym (two_halves size h)) c

range_by : (half : ℕ) (low : ℤ) → pos 0 ≤ℤ low → low <ℤ pos (2 * half) → (b : Bool) → int_le (pos half) low ≡ b
    → ((pos 0 -ℤ pos half) ≤ℤ cond b (low -ℤ pos (2 * half)) low) × (cond b (low -ℤ pos (2 * half)) low <ℤ pos half)
range_by half low f g true e = (grind (arith, ints, f, g, e), grind (arith, ints, f, g, e))
range_by half low f g false e = (grind (arith, ints, f, g, e), grind (arith, ints, f, g, e))

pub wrapped-InRange : (size : ℕ) (signed : Bool) (v : ℤ) → HasSize size → InRange size signed (wrapped size signed v)
wrapped-InRange size true v h =
    let p = half_positive size h in
    let b = rest_below v (2 * half_of size) (omega arith) in
    range_by (half_of size) (int_rem_euclid v (pos (2 * half_of size))) b.0 b.1 (int_le (pos (half_of size)) (int_rem_euclid v (pos (2 * half_of size)))) refl
wrapped-InRange size false v h = let p = half_positive size h in rest_below v (2 * half_of size) (omega arith)

pub dist : (a c b : ℤ) → (a +ℤ b) *ℤ c ≡ a *ℤ c +ℤ b *ℤ c
dist a c = ℤ_ind (λ b. (a +ℤ b) *ℤ c ≡ a *ℤ c +ℤ b *ℤ c)
    (ap (λ x. x *ℤ c) (+ℤ_idr a) ∙ sym (ap (λ x. a *ℤ c +ℤ x) (zero-*ℤ c) ∙ +ℤ_idr (a *ℤ c)))
    (λ n h. ap (λ x. x *ℤ c) (sym (+ℤ_assoc a (pos n) (pos 1)) ∙ +ℤ_one (a +ℤ pos n)) ∙ suc_ℤ-*ℤ (a +ℤ pos n) c ∙ ap (λ x. x +ℤ c) h ∙ +ℤ_assoc (a *ℤ c) (pos n *ℤ c) c
    ∙ ap (λ x. a *ℤ c +ℤ x) (sym (ap (λ x. x *ℤ c) (+ℤ_one (pos n)) ∙ suc_ℤ-*ℤ (pos n) c)))
    (λ n h. ap (λ x. x *ℤ c) (sym (+ℤ_assoc a (neg_ℤ (pos n)) (neg_ℤ (pos 1))) ∙ -ℤ_one (a +ℤ neg_ℤ (pos n))) ∙ pred_ℤ-*ℤ (a +ℤ neg_ℤ (pos n)) c ∙ ap (λ x. x -ℤ c) h ∙ +ℤ_assoc (a *ℤ c) (neg_ℤ (pos n) *ℤ c) (neg_ℤ c)
    ∙ ap (λ x. a *ℤ c +ℤ x) (sym (ap (λ x. x *ℤ c) (-ℤ_one (neg_ℤ (pos n))) ∙ pred_ℤ-*ℤ (neg_ℤ (pos n)) c)))

minus : (a b c : ℤ) → (a -ℤ b) *ℤ c ≡ a *ℤ c -ℤ b *ℤ c
minus a b c = let e : (a -ℤ b) *ℤ c +ℤ b *ℤ c ≡ a *ℤ c = sym (dist (a -ℤ b) c b) ∙ ap (λ x. x *ℤ c) (-ℤ-+ℤ_cancel a b) in omega (arith, ints, e)

-- numbers nearer than the modulus whose distance is a multiple of it are the same
close : (a b k : ℤ) (m : ℕ) → a ≡ b +ℤ k *ℤ pos m → a <ℤ (b +ℤ pos m) → b <ℤ (a +ℤ pos m) → a ≡ b
close a b (pos zero) m e f g = e ∙ ap (λ x. b +ℤ x) (zero-*ℤ (pos m)) ∙ +ℤ_idr b
close a b (pos (suc n)) m e f g = let h : suc n * m ≡ n * m + m = grind arith in absurd (omega (arith, ints))
close a b (negsuc n) m e f g =
    let h : suc n * m ≡ n * m + m = grind arith in
    let e' : a ≡ b +ℤ neg_ℤ (pos (suc n * m)) = e ∙ ap (λ x. b +ℤ x) (negsuc-*ℤ-pos n m) in absurd (omega (arith, ints, e', h, f, g))

-- two numbers of one range are nearer than the modulus
near : (size : ℕ) (signed : Bool) (a b : ℤ) → InRange size signed a → InRange size signed b → a <ℤ (b +ℤ pos (2 * half_of size))
near size true a b r s = omega (arith, ints, r, s)
near size false a b r s = omega (arith, ints, r, s)

-- of two numbers congruent to a third the distance is a multiple
apart : (a b v k l : ℤ) (m : ℕ) → a ≡ v +ℤ k *ℤ pos m → b ≡ v +ℤ l *ℤ pos m → a ≡ b +ℤ (k -ℤ l) *ℤ pos m
apart a b v k l m e f = rw (minus k l (pos m)) (omega (arith, ints, e, f))

pub only_wrapped : (size : ℕ) (signed : Bool) (v u : ℤ) → HasSize size → InRange size signed u → Congruent size u v → u ≡ wrapped size signed v
only_wrapped size signed v u h r c =
    let w : ℤ = wrapped size signed v in
    let s = wrapped-InRange size signed v h in
    let d = wrapped-Congruent size signed v h in
    let e : u ≡ w +ℤ (c.0 -ℤ d.0) *ℤ pos (2 * half_of size) = subst (λ (m : ℕ). u ≡ w +ℤ (c.0 -ℤ d.0) *ℤ pos m) (two_halves size h) (apart u w v c.0 d.0 (2 ^ (8 * size)) c.1 d.1) in
    close u w (c.0 -ℤ d.0) (2 * half_of size) e (near size signed u w r s) (near size signed w u s r)

pub congruent_chain : (size : ℕ) (a b c : ℤ) → Congruent size a b → Congruent size b c → Congruent size a c
congruent_chain size a b c h g =
    let m : ℤ = pos (2 ^ (8 * size)) in
    (g.0 +ℤ h.0, h.1 ∙ ap (λ x. x +ℤ h.0 *ℤ m) g.1 ∙ +ℤ_assoc c (g.0 *ℤ m) (h.0 *ℤ m) ∙ ap (λ x. c +ℤ x) (sym (dist g.0 m h.0)))

pub ruleset wrap_laws = (wrapped-InRange, wrapped-Congruent, only_wrapped)
