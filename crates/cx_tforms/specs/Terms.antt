-- Which linear forms are terms: the number is at most 2^96 and the factor of each symbol at most 2^32, both without their signs,
-- and at most four symbols are left. A form counts by its sums, whatever its parts are.
use Rattle.std.specs.Prelude.{ℕ, ℤ, pos, ◌-ℤ◌, ◌^◌, Bool, true, ◌&&◌, nat_le, List, [], ◌∷◌, ◌++◌, length, Option, Some, None, unsigned_abs, if◌then◌else◌}
use Rattle.std.specs.List.{list_all}
use Rattle.cx_base.specs.Names.{numbered}
use Rattle.cx_tsyn.specs.Lins.{LinTree, RelationTree}
use Rattle.cx_tnumber.specs.Numbers.{is_zero, parts_of, sum_of}

-- ---- by the sum of the numbers and those of the factors of each symbol; the symbols are those of the parts

abbrev pub is_small : (limit : ℕ) → ℤ → Bool
is_small limit z = nat_le (unsigned_abs z) limit

abbrev pub factor_is_small : (sum : Option (List ℕ) → ℤ) → Option (List ℕ) → Bool
factor_is_small sum None = true
factor_is_small sum (Some s) = is_small (2 ^ 32) (sum (Some s))

abbrev pub factors_are_small : (sum : Option (List ℕ) → ℤ) → List (Option (List ℕ) × ℤ) → Bool
factors_are_small sum ps = list_all (λ p. factor_is_small sum p.0) ps

abbrev pub with_left : (sum : Option (List ℕ) → ℤ) → (names : List (List ℕ)) → Option (List ℕ) → List (List ℕ)
with_left sum names None = names
with_left sum names (Some s) = if is_zero (sum (Some s)) then names else numbered names s

-- these names, and the symbols of the parts of which something is left, each once
abbrev pub left_in : (sum : Option (List ℕ) → ℤ) → (names : List (List ℕ)) → List (Option (List ℕ) × ℤ) → List (List ℕ)
left_in sum names [] = names
left_in sum names (p ∷ ps) = left_in sum (with_left sum names p.0) ps

abbrev pub is_term : (sum : Option (List ℕ) → ℤ) → List (Option (List ℕ) × ℤ) → Bool
is_term sum ps = is_small (2 ^ 96) (sum None) && (factors_are_small sum ps && nat_le (length (left_in sum [] ps)) 4)

-- ---- of what is written

abbrev pub lin_is_term : LinTree → Bool
lin_is_term l = is_term (sum_of l) (parts_of l)

-- the sums of the first form less the second
abbrev pub less : (a b : Option (List ℕ) → ℤ) → Option (List ℕ) → ℤ
less a b u = a u -ℤ b u

-- the sums of a form less 1
abbrev pub one_less : (a : Option (List ℕ) → ℤ) → Option (List ℕ) → ℤ
one_less a None = a None -ℤ pos 1
one_less a (Some s) = a (Some s)

-- the first form less the second is a term, as it is and less 1
abbrev pub difference_is_term : (a b : LinTree) → Bool
difference_is_term a b =
    is_term (less (sum_of a) (sum_of b)) (parts_of a ++ parts_of b)
    && is_term (one_less (less (sum_of a) (sum_of b))) (parts_of a ++ parts_of b)

-- the difference of the sides is a term, either way round, as it is and less 1
abbrev pub differences_are_terms : RelationTree → Bool
differences_are_terms r = difference_is_term r.left r.right && difference_is_term r.right r.left
