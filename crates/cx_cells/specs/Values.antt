-- Numbers as the values of symbols.
use Rattle.std.specs.Prelude.{ℕ, ℤ, pos, negsuc, List, map, slice_index_or, Option, Some, None}
use Rattle.cx_term.specs.Forms.{Linear, value}

-- the numbers as the values of the symbols from 0 on; 0 past the end
abbrev pub values_of : List ℤ → ℕ → ℤ
values_of zs s = slice_index_or zs s (pos 0)

-- what the terms come to
abbrev pub all_values : (ℕ → ℤ) → List Linear → List ℤ
all_values v ts = map (value v) ts

-- the number as a count: none where it is negative
abbrev pub count_of : ℤ → Option ℕ
count_of (pos n) = Some n
count_of (negsuc n) = None
