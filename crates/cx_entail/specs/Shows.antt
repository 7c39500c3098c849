-- What known conditions and ranges show of a form.
use Rattle.std.specs.Prelude.{ℕ, ℤ, pos, negsuc, neg_ℤ, ◌-ℤ◌, ◌/◌, ◌%◌, unsigned_abs, Bool, true, false, not, nat_lt, ◌==◌, ◌||◌, ◌&&◌, if◌then◌else◌, List, [], ◌∷◌, ◌++◌, Option, Some, None}
use Rattle.std.specs.List.{list_any, AllByRecursion}
use Rattle.std.specs.Int.{int_rem_euclid}
use Rattle.cx_term.specs.Forms.{Linear, fit, constant_of}
use Rattle.cx_term.specs.Conditions.{Holds}
use Rattle.cx_term.specs.Sums.{plus_times, combined, plus_number}
use Rattle.cx_term.specs.Replaced.{coefficient}
use Rattle.cx_term.specs.declared.term.Ineq.{Ineq}
use Rattle.cx_term.specs.declared.term.Ineq.TheVariants.{Ge, Ne}
use Rattle.cx_entail.specs.Ranges.{Span, same_z}
use Rattle.cx_entail.specs.Joins.{gcd}
use Rattle.cx_entail.specs.Bounds.{InRanges, least, modulus, at_lows}
use lib.Signed.{le_z}

-- the fact is true for all values of the symbols within the ranges and the known conditions
abbrev pub Follows : List Ineq → List Span → ((ℕ → ℤ) → Type 0) → Type 0
Follows known rs P = (v : ℕ → ℤ) → InRanges rs v → AllByRecursion (Holds v) known → P v

-- a form is there, and passes the test
abbrev pub passes : (Linear → Bool) → Option Linear → Bool
passes test None = false
passes test (Some t) = test t

-- what brings a number that is c modulo m up to one that is m - 1: with it added the number is at least 0 only where it was
abbrev pub slack : ℕ → ℤ → ℤ
slack m c = if nat_lt 1 m then ((pos m -ℤ pos 1) -ℤ int_rem_euclid c (pos m)) else pos 0

-- f, rounded up by its remainder
abbrev pub rounded : List Span → Linear → Option Linear
rounded rs f = fit (plus_number (slack (modulus rs f) (at_lows rs f)) f)

-- both numbers are above 0, or both below
abbrev pub one_sign : ℤ → ℤ → Bool
one_sign a b = (le_z (pos 1) a && le_z (pos 1) b) || (le_z a (negsuc 0) && le_z b (negsuc 0))

-- the least numbers k and m above 0 with k times p equal to m times q
abbrev pub divided : ℕ → ℕ → ℕ × ℕ
divided p q = (q / gcd p q, p / gcd p q)

-- the least factors above 0 that make the coefficients p and q equal
abbrev pub factors : ℤ → ℤ → Option (ℕ × ℕ)
factors p q = if one_sign p q then Some (divided (unsigned_abs p) (unsigned_abs q)) else None

abbrev pub same_factors : ℕ × ℕ → ℕ × ℕ → Bool
same_factors a b = (a.0 == b.0) && (a.1 == b.1)

-- the list of factors with one more, where that is new
abbrev pub with_new : Option (ℕ × ℕ) → List (ℕ × ℕ) → List (ℕ × ℕ)
with_new None ks = ks
with_new (Some k) ks = if list_any (same_factors k) ks then ks else (ks ++ k ∷ [])

-- the list with the factors for each symbol of the parts ps that the parts gs have too
abbrev pub all_factors : List (ℕ × ℤ) → List (ℕ × ℤ) → List (ℕ × ℕ) → List (ℕ × ℕ)
all_factors gs [] ks = ks
all_factors gs (p ∷ ps) ks = all_factors gs ps (with_new (factors p.1 (coefficient p.0 gs)) ks)

-- k * f - m * g + k - 1, which is at least 0 only where f is or g is not; where k and m are a symbol's factors, it lacks the symbol
abbrev pub less_multiple : Linear → Linear → ℕ × ℕ → Option Linear
less_multiple f g k = fit (combined (pos k.0) f (neg_ℤ (pos k.1)) g (pos k.0 -ℤ pos 1))

-- some symbol's factors make what f has over the known form pass the test
abbrev pub passes_less : (Linear → Bool) → Linear → Ineq → Bool
passes_less test f (Ge g) = list_any (λ k. passes test (less_multiple f g k)) (all_factors g.parts f.parts [])
passes_less test f (Ne g) = false

abbrev pub passes_known : (Linear → Bool) → List Ineq → Linear → Bool
passes_known test known f = list_any (passes_less test f) known

-- f is at least 0 by the ranges
abbrev pub shown_none : List Span → Linear → Bool
shown_none rs f = le_z (pos 0) (least rs f)

-- f is at least 0 by the ranges, or rounded up passes the test less a multiple of something known
abbrev pub step : (Linear → Bool) → List Ineq → List Span → Linear → Bool
step test known rs f = shown_none rs f || passes (passes_known test known) (rounded rs f)

-- f is shown to be at least 0 in one step
abbrev pub shown_once : List Ineq → List Span → Linear → Bool
shown_once known rs f = step (shown_none rs) known rs f

-- in two steps
abbrev pub shown_twice : List Ineq → List Span → Linear → Bool
shown_twice known rs f = step (shown_once known rs) known rs f

-- f is shown to be at least 0, in three steps
abbrev pub shown : List Ineq → List Span → Linear → Bool
shown known rs f = step (shown_twice known rs) known rs f

-- the two lists of parts are the same
abbrev pub same_parts : List (ℕ × ℤ) → List (ℕ × ℤ) → Bool
same_parts [] [] = true
same_parts [] (q ∷ qs) = false
same_parts (p ∷ ps) [] = false
same_parts (p ∷ ps) (q ∷ qs) = (p.0 == q.0) && (same_z p.1 q.1 && same_parts ps qs)

-- the two forms are the same
abbrev pub same_form : Linear → Linear → Bool
same_form t u = same_z t.konst u.konst && same_parts t.parts u.parts

abbrev pub is_listed_by : Linear → Ineq → Bool
is_listed_by f (Ge g) = false
is_listed_by f (Ne g) = same_form g f

-- that f is not 0 is among the known conditions
abbrev pub listed : List Ineq → Linear → Bool
listed known f = list_any (is_listed_by f) known

-- the form is c modulo m, and so not 0: m is above 0 and does not divide c
abbrev pub leaves_rest : ℕ → ℤ → Bool
leaves_rest m c = nat_lt 0 m && not ((unsigned_abs c % m) == 0)

-- f - 1
abbrev pub less_one : Linear → Option Linear
less_one f = fit (plus_times (negsuc 0) (constant_of (pos 1)) f)

-- -f - 1
abbrev pub minus_less_one : Linear → Option Linear
minus_less_one f = fit (plus_times (negsuc 0) f (constant_of (negsuc 0)))

-- -f
abbrev pub minus : Linear → Option Linear
minus f = fit (plus_times (negsuc 0) f (constant_of (pos 0)))

-- f is shown not to be 0: it is shown above 0 or below 0, or its remainder is not 0, or it or -f is listed
abbrev pub shown_nonzero : List Ineq → List Span → Linear → Bool
shown_nonzero known rs f =
    passes (shown known rs) (less_one f) || (passes (shown known rs) (minus_less_one f) || (leaves_rest (modulus rs f) (at_lows rs f) || (listed known f || passes (listed known) (minus f))))
