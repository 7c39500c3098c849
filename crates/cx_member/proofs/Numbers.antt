-- How large the numbers that bytes write are.
use Rattle.std.specs.Prelude.{ℕ, ℤ, pos, ◌*◌, ◌-◌, ◌≤◌, ◌^◌, ◌+◌, List, slice_range, Bool, true, false, unsigned_abs}
use Rattle.std.proofs.Common.{arith, lit≤}
use Rattle.std.proofs.lemmas.Int.{ints}
use Rattle.cx_base.specs.Bytes.{number_of}
use Rattle.cx_base.specs.Number.{HasSize, InRange, wrapped, half_of}
use Rattle.cx_base.proofs.Sizes.{at_sizes}
use Rattle.cx_base.proofs.Wrapping.{wrapped-InRange}
use Rattle.cx_cells.specs.Meaning.{number_at}

half_small : (s : ℕ) → HasSize s → half_of s ≤ 2 ^ 63
unfolding half_of
half_small s h = at_sizes (λ n. 2 ^ (8 * n - 1) ≤ 2 ^ 63) (lit≤ tt) (lit≤ tt) (lit≤ tt) (lit≤ tt) s h

pub in_range-small : (size : ℕ) (signed : Bool) (z : ℤ) → HasSize size → InRange size signed z → unsigned_abs z ≤ 2 ^ 64
in_range-small size true z h r = let b = half_small size h in omega (arith, ints, r.0, r.1)
in_range-small size false z h r = let b = half_small size h in omega (arith, ints, r.0, r.1)

pub number_small : (bytes : List ℕ) (off size : ℕ) (signed : Bool) → HasSize size → unsigned_abs (number_at bytes off size signed) ≤ 2 ^ 64
number_small bytes off size signed h =
    let n : ℤ = pos (number_of (slice_range bytes off (off + size))) in
    in_range-small size signed (wrapped size signed n) h (wrapped-InRange size signed n h)
