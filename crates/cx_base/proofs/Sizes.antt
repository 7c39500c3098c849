-- The sizes of C's integer types, and the halves of their numbers of values.
use Rattle.std.proofs.Common.{◌≡◌, ◌≢◌, ℕ, ◌*◌, ◌<◌, ◌^◌, ◌-◌, refl, sym, subst, arith, IsTrue, ◌||◌, Bool, true, false, lit<}
use Rattle.std.specs.Prelude.{nat_eq}
use Rattle.std.proofs.lemmas.Bool.Decides.{nat_tests}
use Rattle.cx_base.specs.Number.{HasSize, half_of}

pub eight : (n : ℕ) → HasSize n → n ≢ 1 → n ≢ 2 → n ≢ 4 → n ≡ 8
eight n h a b c = grind (arith, nat_tests)

-- what holds of each size
pub at_sizes : (P : ℕ → Type 0) → P 1 → P 2 → P 4 → P 8 → (s : ℕ) → HasSize s → P s
at_sizes P a b c d s h = by_test (nat_eq s 1) (nat_eq_is s 1) (nat_eq s 2) (nat_eq_is s 2) (nat_eq s 4) (nat_eq_is s 4) (nat_eq s 8) (nat_eq_is s 8) h
  where
    nat_eq_is : (m n : ℕ) → nat_eq m n ≡ true → m ≡ n
    nat_eq_is m n e = grind (arith, nat_tests, e)

    by_test : (w : Bool) → (w ≡ true → s ≡ 1) → (x : Bool) → (x ≡ true → s ≡ 2) → (y : Bool) → (y ≡ true → s ≡ 4) → (z : Bool) → (z ≡ true → s ≡ 8) → IsTrue (w || x || y || z) → P s
    by_test true e x f y g z i h = subst P (sym (e refl)) a
    by_test false e true f y g z i h = subst P (sym (f refl)) b
    by_test false e false f true g z i h = subst P (sym (g refl)) c
    by_test false e false f false g true i h = subst P (sym (i refl)) d
    by_test false e false f false g false i h = absurd (grind (arith, h))

pub half_positive : (s : ℕ) → HasSize s → 0 < half_of s
unfolding half_of
half_positive s h = at_sizes (λ n. 0 < 2 ^ (8 * n - 1)) (lit< tt) (lit< tt) (lit< tt) (lit< tt) s h

-- a half, twice
pub two_halves : (s : ℕ) → HasSize s → 2 ^ (8 * s) ≡ 2 * half_of s
unfolding half_of
two_halves s h = at_sizes (λ n. 2 ^ (8 * n) ≡ 2 * 2 ^ (8 * n - 1)) refl refl refl refl s h
