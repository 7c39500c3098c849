-- Numbers of 64 bits, with a sign or without one: those of the integer types of C.
use Rattle.std.specs.Prelude.{ℤ, pos, negsuc, ◌^◌, ◌-ℤ◌, ◌≤ℤ◌, ◌<ℤ◌, Bool, ◌&&◌}
use Rattle.std.specs.Ordering.{int_eq}

pub record IsWord (v : ℤ) : Type 0 where
  pub low : (pos 0 -ℤ pos (2 ^ 63)) ≤ℤ v
  pub high : v <ℤ pos (2 ^ 64)

-- the quotient is no number of 128 bits: the least of them by -1
abbrev pub overflowing : ℤ → ℤ → Bool
overflowing x y = int_eq x (pos 0 -ℤ pos (2 ^ 127)) && int_eq y (negsuc 0)
