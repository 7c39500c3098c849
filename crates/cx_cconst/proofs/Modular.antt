-- What is wrapped may be computed modulo 2 ^ 128 first, as the `wrapping_` methods of i128 do.
use Rattle.std.proofs.Common.{ℕ, suc, ◌≡◌, ◌*◌, ◌-◌, ◌^◌, refl, sym, ap, ◌∙◌, arith, Bool, true, false, ℤ, pos, negsuc, ◌+ℤ◌, ◌-ℤ◌, ◌*ℤ◌, ◌≤ℤ◌, ◌<ℤ◌, lit<, ltb}
use Rattle.std.proofs.Math.IntN.{neg_ℤ, zero-*ℤ, ℤ_ind}
use Rattle.std.proofs.lemmas.Int.{ints, int_wrap-add_right, int_wrap-mul_left}
use Rattle.std.specs.Int.{int_rem_euclid, int_wrap}
use Rattle.std.specs.Int.RustNames.{unsigned_abs}
use mir.Syntax.{w128}
use mir.Val.{to_z, sel}
use Rattle.cx_base.specs.Number.{HasSize, Congruent, wrapped}
use Rattle.cx_base.proofs.Sizes.{at_sizes}
use Rattle.cx_base.proofs.Wrapping.{neg-mul, less_one, dist, rest_congruent, rest_below, wrapped-InRange, wrapped-Congruent, only_wrapped, congruent_chain}

one_times : (c m : ℕ) → pos 1 *ℤ pos (c * m) ≡ (pos 1 *ℤ pos c) *ℤ pos m
one_times c m = ap pos (let e : 1 * (c * m) ≡ 1 * c * m = grind arith in e)

less_times : (c m : ℕ) → neg_ℤ (pos 1) *ℤ pos (c * m) ≡ (neg_ℤ (pos 1) *ℤ pos c) *ℤ pos m
less_times c m = neg-mul 1 (c * m) ∙ ap (λ x. neg_ℤ (pos x)) (let e : 1 * (c * m) ≡ 1 * c * m = grind arith in e) ∙ sym (neg-mul (1 * c) m) ∙ ap (λ x. x *ℤ pos m) (sym (neg-mul 1 c))

-- a product of three
times : (k : ℤ) (c m : ℕ) → k *ℤ pos (c * m) ≡ (k *ℤ pos c) *ℤ pos m
times k c m = ℤ_ind (λ k. k *ℤ pos (c * m) ≡ (k *ℤ pos c) *ℤ pos m)
    (zero-*ℤ (pos (c * m)) ∙ sym (ap (λ x. x *ℤ pos m) (zero-*ℤ (pos c)) ∙ zero-*ℤ (pos m)))
    (λ n h. dist (pos n) (pos (c * m)) (pos 1) ∙ ap (λ x. x +ℤ pos 1 *ℤ pos (c * m)) h ∙ ap (λ x. (pos n *ℤ pos c) *ℤ pos m +ℤ x) (one_times c m) ∙ sym (dist (pos n *ℤ pos c) (pos m) (pos 1 *ℤ pos c)) ∙ ap (λ x. x *ℤ pos m) (sym (dist (pos n) (pos c) (pos 1))))
    (λ n h. dist (neg_ℤ (pos n)) (pos (c * m)) (neg_ℤ (pos 1)) ∙ ap (λ x. x +ℤ neg_ℤ (pos 1) *ℤ pos (c * m)) h ∙ ap (λ x. (neg_ℤ (pos n) *ℤ pos c) *ℤ pos m +ℤ x) (less_times c m) ∙ sym (dist (neg_ℤ (pos n) *ℤ pos c) (pos m) (neg_ℤ (pos 1) *ℤ pos c)) ∙ ap (λ x. x *ℤ pos m) (sym (dist (neg_ℤ (pos n)) (pos c) (neg_ℤ (pos 1))))) k

moved : (r : ℕ) → pos r <ℤ pos (2 ^ 128) → negsuc (2 ^ 128 - suc r) ≡ pos r -ℤ pos (2 ^ 128)
moved r high = omega (arith, ints)

-- what the `wrapping_` methods answer
int_wrap_congruent : (z : ℤ) → (k : ℤ) × (int_wrap w128 z ≡ z +ℤ k *ℤ pos (2 ^ 128))
unfolding int_wrap
int_wrap_congruent z =
    let c = rest_congruent z (2 ^ 128) (lit< tt) in let b = rest_below z (2 ^ 128) (lit< tt) in by_case (int_rem_euclid z (pos (2 ^ 128))) c.0 c.1 b.0 b.1
  where
    by_case : (r k : ℤ) → r ≡ z +ℤ k *ℤ pos (2 ^ 128) → pos 0 ≤ℤ r → r <ℤ pos (2 ^ 128) → (k : ℤ) × (to_z w128 (unsigned_abs r) ≡ z +ℤ k *ℤ pos (2 ^ 128))
    by_case (pos r) k e low high = by_test (ltb r (2 ^ 127))
      where
        by_test : (b : Bool) → (x : ℤ) × (sel b (pos r) (negsuc (2 ^ 128 - suc r)) ≡ z +ℤ x *ℤ pos (2 ^ 128))
        by_test true = (k, e)
        by_test false = (k -ℤ pos 1, moved r high ∙ less_one (pos r) z k (2 ^ 128) e)
    by_case (negsuc r) k e low high = absurd (omega (arith, ints))

factor : (s : ℕ) → HasSize s → (c : ℕ) × (2 ^ 128 ≡ c * 2 ^ (8 * s))
factor = at_sizes (λ s. (c : ℕ) × (2 ^ 128 ≡ c * 2 ^ (8 * s))) (2 ^ 120, refl) (2 ^ 112, refl) (2 ^ 96, refl) (2 ^ 64, refl)

pub wrapped_wrap : (size : ℕ) (signed : Bool) (z : ℤ) → HasSize size → wrapped size signed (int_wrap w128 z) ≡ wrapped size signed z
wrapped_wrap size signed z h =
    let w = int_wrap_congruent z in
    let f = factor size h in
    let g : Congruent size (int_wrap w128 z) z = (w.0 *ℤ pos f.0, w.1 ∙ ap (λ n. z +ℤ w.0 *ℤ pos n) f.1 ∙ ap (λ x. z +ℤ x) (times w.0 f.0 (2 ^ (8 * size)))) in
    only_wrapped size signed z (wrapped size signed (int_wrap w128 z)) h (wrapped-InRange size signed (int_wrap w128 z) h)
    (congruent_chain size _ _ _ (wrapped-Congruent size signed (int_wrap w128 z) h) g)

-- so may its parts
pub moved_on : (size : ℕ) (signed : Bool) (p z : ℤ) → HasSize size → wrapped size signed (p +ℤ int_wrap w128 z) ≡ wrapped size signed (p +ℤ z)
moved_on size signed p z h = sym (wrapped_wrap size signed (p +ℤ int_wrap w128 z) h) ∙ ap (wrapped size signed) (int_wrap-add_right w128 p z) ∙ wrapped_wrap size signed (p +ℤ z) h

pub moved_back : (size : ℕ) (signed : Bool) (p z n : ℤ) → HasSize size → wrapped size signed (p +ℤ int_wrap w128 (int_wrap w128 z *ℤ n)) ≡ wrapped size signed (p +ℤ z *ℤ n)
moved_back size signed p z n h = ap (λ x. wrapped size signed (p +ℤ x)) (int_wrap-mul_left w128 z n) ∙ moved_on size signed p (z *ℤ n) h
