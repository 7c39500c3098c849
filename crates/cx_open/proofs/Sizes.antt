-- The ends of integer types are small.
use Rattle.std.specs.Prelude.{ℕ, ◌≤◌, ◌*◌, ◌^◌, ◌-◌, unsigned_abs, Bool, true, false}
use Rattle.std.proofs.Common.{arith}
use Rattle.std.proofs.lemmas.Int.{ints}
use Rattle.cx_base.specs.Number.{HasSize, half_of}
use Rattle.cx_base.proofs.Sizes.{at_sizes, half_positive}
use Rattle.cx_query.specs.Kinds.{least_of, greatest_of}

half_small : (s : ℕ) → HasSize s → half_of s ≤ 2 ^ 64
unfolding half_of
half_small s h = at_sizes (λ n. 2 ^ (8 * n - 1) ≤ 2 ^ 64) (omega arith) (omega arith) (omega arith) (omega arith) s h

pub least_small : (size : ℕ) (signed : Bool) → HasSize size → unsigned_abs (least_of size signed) ≤ 2 ^ 65
least_small size true h = let p = half_small size h in omega (arith, ints, p)
least_small size false h = omega (arith, ints)

pub greatest_small : (size : ℕ) (signed : Bool) → HasSize size → unsigned_abs (greatest_of size signed) ≤ 2 ^ 65
greatest_small size true h = let p = half_small size h in let q = half_positive size h in omega (arith, ints, p, q)
greatest_small size false h = let p = half_small size h in let q = half_positive size h in omega (arith, ints, p, q)
