-- Counts that never fall, and stop at 2 ^ 64 - 1.
use Rattle.std.specs.Prelude.{ℕ, ◌+◌, ◌≤◌, min}

-- the greatest value of a count, 2 ^ 64 - 1
abbrev pub count_max : ℕ
count_max = 18446744073709551615

-- the count rose, or stands at its greatest value
abbrev pub Rose : ℕ → ℕ → Type 0
Rose before now = min (before + 1) count_max ≤ now

-- the count rose by at least n, or stands at its greatest value
abbrev pub RoseBy : ℕ → ℕ → ℕ → Type 0
RoseBy n before now = min (before + n) count_max ≤ now

-- the count rose by n, or to its greatest value where that is less
abbrev pub CountsUp : ℕ → ℕ → ℕ → Type 0
CountsUp n before now = (now ≤ before + n) × (min (before + n) count_max ≤ now)
