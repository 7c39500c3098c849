-- What ranges of the symbols say of a form's value.
use Rattle.std.specs.Prelude.{ℕ, ℤ, pos, ◌+ℤ◌, ◌*ℤ◌, ◌*◌, ◌≤ℤ◌, unsigned_abs, if◌then◌else◌, List, [], ◌∷◌, slice_index_or}
use Rattle.cx_term.specs.Forms.{Linear, value}
use Rattle.cx_entail.specs.Ranges.{Span, Has, Congruent, low, high, stride}
use Rattle.cx_entail.specs.Joins.{gcd}
use lib.Signed.{le_z}

-- the range that has the number 0 alone
abbrev pub only_zero : Span
only_zero = record { lo = pos 0; hi = pos 0; m = 1; r = 0 }

-- the range of the symbol s: a symbol past the list's end is 0
abbrev pub range_at : List Span → ℕ → Span
range_at rs s = slice_index_or rs s only_zero

-- each symbol's value is in its range
abbrev pub InRanges : List Span → (ℕ → ℤ) → Type 0
InRanges rs v = (s : ℕ) → Has (range_at rs s) (v s)

-- the end of the symbol's range at which the part is least
abbrev pub least_end : List Span → ℕ × ℤ → ℤ
least_end rs p = if le_z (pos 0) p.1 then low (range_at rs p.0) else high (range_at rs p.0)

abbrev pub least_parts : List Span → List (ℕ × ℤ) → ℤ
least_parts rs [] = pos 0
least_parts rs (p ∷ ps) = p.1 *ℤ least_end rs p +ℤ least_parts rs ps

-- the least value of the form over the ranges
abbrev pub least : List Span → Linear → ℤ
least rs t = t.konst +ℤ least_parts rs t.parts

-- the end of the symbol's range at which the part is greatest
abbrev pub most_end : List Span → ℕ × ℤ → ℤ
most_end rs p = if le_z (pos 0) p.1 then high (range_at rs p.0) else low (range_at rs p.0)

abbrev pub most_parts : List Span → List (ℕ × ℤ) → ℤ
most_parts rs [] = pos 0
most_parts rs (p ∷ ps) = p.1 *ℤ most_end rs p +ℤ most_parts rs ps

-- the greatest value of the form over the ranges
abbrev pub most : List Span → Linear → ℤ
most rs t = t.konst +ℤ most_parts rs t.parts

-- the form's value where each symbol is at the low of its range
abbrev pub lows_parts : List Span → List (ℕ × ℤ) → ℤ
lows_parts rs [] = pos 0
lows_parts rs (p ∷ ps) = p.1 *ℤ low (range_at rs p.0) +ℤ lows_parts rs ps

abbrev pub at_lows : List Span → Linear → ℤ
at_lows rs t = t.konst +ℤ lows_parts rs t.parts

-- the gcd of m and of each coefficient's size times its symbol's stride
abbrev pub modulus_with : List Span → ℕ → List (ℕ × ℤ) → ℕ
modulus_with rs m [] = m
modulus_with rs m (p ∷ ps) = modulus_with rs (gcd m (unsigned_abs p.1 * stride (range_at rs p.0))) ps

-- what all values of the form over the ranges are congruent by
abbrev pub modulus : List Span → Linear → ℕ
modulus rs t = modulus_with rs 0 t.parts

-- the form's value lies between, whatever values in their ranges the symbols have
abbrev pub LiesBetween : List Span → Linear → ℤ → ℤ → Type 0
LiesBetween rs t lo hi = (v : ℕ → ℤ) → InRanges rs v → (lo ≤ℤ value v t) × (value v t ≤ℤ hi)

-- the form's value is congruent to c, whatever values in their ranges the symbols have
abbrev pub LeavesRemainder : List Span → Linear → ℕ → ℤ → Type 0
LeavesRemainder rs t m c = (v : ℕ → ℤ) → InRanges rs v → Congruent m (value v t) c
