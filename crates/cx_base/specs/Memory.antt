-- Memory as a list of regions.
use Rattle.std.specs.Int.{int_rem_euclid}
use Rattle.std.specs.List.{splice}
use Rattle.std.specs.Prelude.{ℕ, ℤ, pos, ◌≡◌, ◌≤◌, ◌<◌, ◌+◌, ◌*◌, ◌^◌, ◌≤ℤ◌, ◌-ℤ◌, nat_abs, List, length, max, slice_range, All, AllPairs, Bool, false, nat_lt, ◌&&◌, Option, position}
use Rattle.cx_base.specs.Bytes.{number_of, bytes_of}
use Rattle.cx_base.specs.Number.{wrapped}
use Rattle.cx_base.specs.declared.memory.Region.{Region}

-- how many bytes a region has
abbrev pub size_of : Region → ℕ
size_of r = length r.bytes

-- the first address past a region; one without bytes takes one address
abbrev pub past_of : Region → ℕ
past_of r = r.base + max (size_of r) 1

-- a number that a region type may have as an argument
pub record IsArgument (a : ℤ) : Type 0 where
  pub low : (pos 0 -ℤ pos (2 ^ 64)) ≤ℤ a
  pub high : a ≤ℤ pos (2 ^ 64)

-- the region lies among the addresses, which are the numbers from 1 to 2 ^ 47 - 1, and its arguments are such numbers
pub record InRange (r : Region) : Type 0 where
  pub low : 1 ≤ r.base
  pub high : past_of r ≤ 2 ^ 47
  pub args : All IsArgument r.args

-- the regions have an address in common
abbrev pub meets : Region → Region → Bool
meets r s = nat_lt r.base (past_of s) && nat_lt s.base (past_of r)

-- the place of the first region that this one meets
abbrev pub first_met : Region → List Region → Option ℕ
first_met r rs = position (meets r) rs

-- a list of regions that is a memory
pub record Valid (rs : List Region) : Type 0 where
  pub ranges : All InRange rs
  pub apart : AllPairs (λ r s. meets s r ≡ false) rs
  pub few : length rs < 2 ^ 32

-- the k bytes from the address a on lie inside the region
pub record Holds (r : Region) (a k : ℕ) : Type 0 where
  pub from : r.base ≤ a
  pub to : a + k ≤ r.base + size_of r

-- the number of this size and sign that the region's bytes from the offset on write
abbrev pub loaded : Region → ℕ → ℕ → Bool → ℤ
loaded r off size signed = wrapped size signed (pos (number_of (slice_range r.bytes off (off + size))))

-- the low bytes of a number
abbrev pub low_bytes : ℕ → ℤ → List ℕ
low_bytes size v = bytes_of size (nat_abs (int_rem_euclid v (pos (2 ^ (8 * size)))))

-- the region with the low bytes of a number at the offset, and all else as it was
abbrev pub stored : Region → ℕ → ℕ → ℤ → Region
stored r off size v = record {
  base = r.base;
  name = r.name;
  args = r.args;
  bytes = splice r.bytes off (off + size) (low_bytes size v);
}
