-- Quotients rounded down.
use Rattle.std.specs.Prelude.{ℕ, ℤ, pos, negsuc, ◌+ℤ◌, ◌*ℤ◌, ◌≤ℤ◌, ◌<ℤ◌, ◌<◌}
use Rattle.std.specs.Int.{int_div_euclid}
use Rattle.std.proofs.Common.{arith}
use Rattle.std.proofs.lemmas.Int.{ints}
use Rattle.cx_entail.proofs.Euclid.{split}

-- the quotient times m is at most z, and less than m below it
pub record IsFloor (z : ℤ) (m : ℕ) (q : ℤ) : Type 0 where
  pub low : (pos m *ℤ q) ≤ℤ z
  pub high : z <ℤ (pos m *ℤ q +ℤ pos m)

pub floor : (z : ℤ) (m : ℕ) → 0 < m → IsFloor z m (int_div_euclid z (pos m))
floor (pos a) m p = let s = split (pos a) m p in record { low = omega (arith, ints, s.sum); high = omega (arith, ints, s.sum, s.below) }
floor (negsuc a) m p = let s = split (negsuc a) m p in record { low = omega (arith, ints, s.sum); high = omega (arith, ints, s.sum, s.below) }
