-- Factors of coefficients are small.
use Rattle.std.specs.Prelude.{ℕ, ℤ, ◌≤◌, unsigned_abs, Bool, true, false, List, [], ◌∷◌, ◌++◌, Some, None}
use Rattle.std.specs.List.{list_any, AllByRecursion}
use Rattle.std.proofs.Common.{arith, cond, eqb}
use Rattle.std.proofs.Math.Nat.{div-le_self}
use Rattle.cx_term.specs.Sums.{AreUpTo}
use Rattle.cx_term.specs.Replaced.{coefficient}
use Rattle.cx_entail.specs.Joins.{gcd}
use Rattle.cx_entail.specs.Shows.{one_sign, divided, factors, same_factors, with_new, all_factors}

-- both factors are at most n
abbrev pub AreSmall : ℕ → List (ℕ × ℕ) → Type 0
AreSmall n ks = AllByRecursion (λ k. (k.0 ≤ n) × (k.1 ≤ n)) ks

coefficient_by : (n : ℕ) (a b : ℤ) (t : Bool) → unsigned_abs a ≤ n → unsigned_abs b ≤ n → unsigned_abs (cond t a b) ≤ n
coefficient_by n a b true g h = g
coefficient_by n a b false g h = h

coefficient-small : (n s : ℕ) (ps : List (ℕ × ℤ)) → AreUpTo n ps → unsigned_abs (coefficient s ps) ≤ n
coefficient-small n s [] h = omega arith
coefficient-small n s (p ∷ ps) h = coefficient_by n p.1 (coefficient s ps) (eqb p.0 s) h.0 (coefficient-small n s ps h.1)

push_small : (n : ℕ) (k : ℕ × ℕ) (ks : List (ℕ × ℕ)) → (k.0 ≤ n) × (k.1 ≤ n) → AreSmall n ks → AreSmall n (ks ++ k ∷ [])
push_small n k [] h g = (h, tt)
push_small n k (x ∷ ks) h g = (g.0, push_small n k ks h g.1)

new_by : (n : ℕ) (k : ℕ × ℕ) (ks : List (ℕ × ℕ)) (t : Bool) → (k.0 ≤ n) × (k.1 ≤ n) → AreSmall n ks → AreSmall n (cond t ks (ks ++ k ∷ []))
new_by n k ks true h g = g
new_by n k ks false h g = push_small n k ks h g

with_by : (n : ℕ) (p q : ℕ) (ks : List (ℕ × ℕ)) (t : Bool) → p ≤ n → q ≤ n → AreSmall n ks → AreSmall n (with_new (cond t (Some (divided p q)) None) ks)
with_by n p q ks true a b g = new_by n (divided p q) ks (list_any (same_factors (divided p q)) ks) (omega (arith, div-le_self q (gcd p q)), omega (arith, div-le_self p (gcd p q))) g
with_by n p q ks false a b g = g

factors-small : (n : ℕ) (gs ps : List (ℕ × ℤ)) (ks : List (ℕ × ℕ)) → AreUpTo n gs → AreUpTo n ps → AreSmall n ks → AreSmall n (all_factors gs ps ks)
factors-small n gs [] ks a b g = g
factors-small n gs (p ∷ ps) ks a b g =
    let c = coefficient p.0 gs in
    factors-small n gs ps (with_new (factors p.1 c) ks) a b.1 (with_by n (unsigned_abs p.1) (unsigned_abs c) ks (one_sign p.1 c) b.0 (coefficient-small n p.0 gs a) g)

first_of : (n : ℕ) (ks : List (ℕ × ℕ)) → AreSmall n ks → AllByRecursion (λ k. k.0 ≤ n) ks
first_of n [] h = tt
first_of n (k ∷ ks) h = (h.0.0, first_of n ks h.1)

second_of : (n : ℕ) (ks : List (ℕ × ℕ)) → AreSmall n ks → AllByRecursion (λ k. k.1 ≤ n) ks
second_of n [] h = tt
second_of n (k ∷ ks) h = (h.0.1, second_of n ks h.1)

pub first-small : (n : ℕ) (gs ps : List (ℕ × ℤ)) → AreUpTo n gs → AreUpTo n ps → AllByRecursion (λ k. k.0 ≤ n) (all_factors gs ps [])
first-small n gs ps a b = first_of n (all_factors gs ps []) (factors-small n gs ps [] a b tt)

pub second-small : (n : ℕ) (gs ps : List (ℕ × ℤ)) → AreUpTo n gs → AreUpTo n ps → AllByRecursion (λ k. k.1 ≤ n) (all_factors gs ps [])
second-small n gs ps a b = second_of n (all_factors gs ps []) (factors-small n gs ps [] a b tt)
