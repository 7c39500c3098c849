-- Ranges: the numbers between two bounds that leave a given remainder.
use Rattle.std.specs.Prelude.{◌≡◌, ℕ, ℤ, pos, ◌+ℤ◌, ◌-ℤ◌, ◌*ℤ◌, ◌≤ℤ◌, ◌<◌, ◌≤◌, ◌^◌, unsigned_abs, if◌then◌else◌, Bool, ◌==◌}
use Rattle.std.specs.Int.{int_rem_euclid}
use lib.Signed.{le_z}

-- what a `Range` says
pub record Span : Type 0 where
  pub lo : ℤ
  pub hi : ℤ
  pub m : ℕ
  pub r : ℕ

-- what a `Range` can say
pub record IsRange (a : Span) : Type 0 where
  pub positive : 0 < a.m
  pub rest : a.r < a.m
  pub low : unsigned_abs a.lo ≤ 2 ^ 65
  pub high : unsigned_abs a.hi ≤ 2 ^ 65

-- a is b and a multiple of m
abbrev pub Congruent : ℕ → ℤ → ℤ → Type 0
Congruent m a b = (j : ℤ) × (a ≡ b +ℤ pos m *ℤ j)

-- v is a number of the range
pub record Has (a : Span) (v : ℤ) : Type 0 where
  pub step : 0 < a.m
  pub low : a.lo ≤ℤ v
  pub high : v ≤ℤ a.hi
  pub rest : Congruent a.m v (pos a.r)

-- the least number from lo on that is r modulo m
abbrev pub first : Span → ℤ
first a = a.lo +ℤ int_rem_euclid (pos a.r -ℤ a.lo) (pos a.m)

-- the greatest number up to hi that is r modulo m
abbrev pub last : Span → ℤ
last a = a.hi -ℤ int_rem_euclid (a.hi -ℤ pos a.r) (pos a.m)

-- the least number of the range, lo where it has none
abbrev pub low : Span → ℤ
low a = if le_z (first a) a.hi then first a else a.lo

-- the greatest number of the range, hi where it has none
abbrev pub high : Span → ℤ
high a = if le_z a.lo (last a) then last a else a.hi

-- whether the range has a number
abbrev pub has_any : Span → Bool
has_any a = le_z (first a) a.hi

abbrev pub same_z : ℤ → ℤ → Bool
same_z a b = unsigned_abs (a -ℤ b) == 0

-- the step between the range's numbers, 0 where it has at most one
abbrev pub stride : Span → ℕ
stride a = if same_z (low a) (high a) then 0 else a.m

-- x is the least number of the range, where it has one
abbrev pub IsLow : Span → ℤ → Type 0
IsLow a x = (v : ℤ) → Has a v → Has a x × (x ≤ℤ v)

-- x is the greatest number of the range, where it has one
abbrev pub IsHigh : Span → ℤ → Type 0
IsHigh a x = (v : ℤ) → Has a v → Has a x × (v ≤ℤ x)
