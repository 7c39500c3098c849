-- Sums that pass the numbers in which they are made.
use Rattle.std.specs.Prelude.{ℕ, ℤ, ◌+ℤ◌, ◌⊎◌, List, [], ◌∷◌, Option, FitsSigned}
use Rattle.std.specs.Int.{w128}
use Rattle.cx_tnumber.specs.Numbers.{share}

-- the number is below -2^127, or 2^127 or more
abbrev pub IsNoI128 : ℤ → Type 0
IsNoI128 z = FitsSigned w128 z → ⊥

-- where the parts are added one after the other to this sum of the factors of a symbol, one of the sums is no i128
abbrev pub Overflows : (before : ℤ) → List (Option (List ℕ) × ℤ) → Option (List ℕ) → Type 0
Overflows before [] u = ⊥
Overflows before (p ∷ ps) u = IsNoI128 (before +ℤ share p u) ⊎ Overflows (before +ℤ share p u) ps u
