-- Numbers from 2 ^ 64 on are all alike for a constant.
use Rattle.std.proofs.Common.{◌≡◌, ℕ, ◌+◌, ◌*◌, ◌^◌, ◌≤◌, ◌<◌, true, List, [], ◌∷◌, refl, sym, ap, ◌∙◌, arith, inl, inr}
use Rattle.std.specs.Prelude.{min, nat_lt, ◌⊎◌}
use Rattle.std.proofs.lemmas.Bool.{cases_Bool}
use Rattle.std.proofs.lemmas.Bool.Decides.{nat_tests}
use Rattle.std.proofs.Math.Nat.{mul-le-mul_left}
use Rattle.cx_cword.specs.Integers.{is_digit_of, digit_value, digits_of}

abbrev pub Alike : ℕ → ℕ → Type 0
Alike x y = min x (2 ^ 64) ≡ min y (2 ^ 64)

-- the text after the digits, and the number as far as it counts
pub record Same (p q : ℕ × List ℕ) : Type 0 where
  pub value : Alike p.0 q.0
  pub rest : p.1 ≡ q.1

-- numbers that are alike are equal or both at least 2 ^ 64
pub either : (x y : ℕ) → Alike x y → (x ≡ y) ⊎ ((2 ^ 64 ≤ x) × (2 ^ 64 ≤ y))
either x y e = elim (cases_Bool (nat_lt x (2 ^ 64))) [
  | inl low ↦ let h : x < 2 ^ 64 = grind (arith, nat_tests, low) in inl (omega (arith, h, e))
  | inr high ↦ let h : 2 ^ 64 ≤ x = grind (arith, nat_tests, high) in inr (omega (arith, h, e), omega (arith, h, e))
]

pub step : (base x y d : ℕ) → 1 ≤ base → Alike x y → Alike (x * base + d) (y * base + d)
step base x y d h e = elim (either x y e) [
  | inl same ↦ ap (λ v. min (v * base + d) (2 ^ 64)) same
  | inr big ↦ let p : x * 1 ≤ x * base = mul-le-mul_left x h in let q : y * 1 ≤ y * base = mul-le-mul_left y h in let f = big.0 in let g = big.1 in omega (arith, p, q, f, g)
]

pub alike : (base : ℕ) → 1 ≤ base → (ds : List ℕ) (x y : ℕ) → Alike x y → Same (digits_of base x ds) (digits_of base y ds)
alike base h [] x y e = record { value = e; rest = refl }
alike base h (d ∷ ds) x y e = elim (cases_Bool (is_digit_of base d)) [
  | inl so ↦ rw so (alike base h ds (x * base + digit_value d) (y * base + digit_value d) (step base x y (digit_value d) h e))
  | inr off ↦ rw off (record { value = e; rest = refl })
]

pub kept : (base v d : ℕ) → 8 ≤ base → 2 ^ 64 ≤ v → min v (2 ^ 64) ≡ min (v * base + d) (2 ^ 64)
kept base v d h big = let o : 1 ≤ base = omega (arith, h) in let p : v * 1 ≤ v * base = mul-le-mul_left v o in omega (arith, p, big)

pub product : (base v : ℕ) → base ≤ 16 → v * base ≤ v * 16
product base v h = mul-le-mul_left v h

-- reading goes on after a digit
pub next : (base v w b : ℕ) (after rest : List ℕ) (p : ℕ × List ℕ) → 8 ≤ base → rest ≡ b ∷ after → is_digit_of base b ≡ true → min w (2 ^ 64) ≡ min (v * base + digit_value b) (2 ^ 64) → Same (digits_of base v rest) p → Same (digits_of base w after) p
next base v w b after rest p h split so e told =
    let o : 1 ≤ base = omega (arith, h) in
    let same : Same (digits_of base w after) (digits_of base (v * base + digit_value b) after) = alike base o after w (v * base + digit_value b) e in
    let here : digits_of base v rest ≡ digits_of base (v * base + digit_value b) after = ap (digits_of base v) split ∙ rw so refl in
    record { value = same.value ∙ sym (ap (λ q. min q.0 (2 ^ 64)) here) ∙ told.value; rest = same.rest ∙ sym (ap (λ q. q.1) here) ∙ told.rest }
