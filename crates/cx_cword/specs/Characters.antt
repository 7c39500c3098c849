-- Character constants of one byte (C11 6.4.4.4).
use Rattle.std.specs.Prelude.{ℕ, ℤ, pos, ◌-◌, true, not, ◌&&◌, ◌==◌, nat_le, nat_lt, List, [], ◌∷◌, length, slice_range, Option, Some, None, option_map, if◌then◌else◌, codes}
use Rattle.cx_base.specs.Number.{wrapped}
use Rattle.cx_cword.specs.Words.{look_up}
use Rattle.cx_cword.specs.Integers.{is_digit_of, digits_of}

-- the escapes of one byte: n t r a b f v, the backslash and both marks
unfoldable pub escapes : List (List ℕ × ℕ)
escapes =
    (codes "n", 10) ∷ (codes "t", 9) ∷ (codes "r", 13) ∷ (codes "a", 7) ∷ (codes "b", 8) ∷ (codes "f", 12) ∷ (codes "v", 11) ∷
    (92 ∷ [], 92) ∷ (39 ∷ [], 39) ∷ (34 ∷ [], 34) ∷ []

-- a number below 256, of at least one digit and at most so many
unfoldable pub byte_in : (base most : ℕ) → List ℕ → Option ℕ
byte_in base most text =
    let read = digits_of base 0 text in
    if nat_lt 0 (length text) && nat_le (length text) most && (length read.1 == 0) && nat_lt read.0 256 then Some read.0 else None

-- what stands after a backslash: up to three octal digits, x and up to two hexadecimal ones, or one byte
abbrev pub escaped : List ℕ → Option ℕ
escaped [] = None
escaped (e ∷ es) = if is_digit_of 8 e then byte_in 8 3 (e ∷ es) else if e == 120 then byte_in 16 2 es else look_up escapes (e ∷ es)

-- what stands between the marks: an escape, or one byte from 32 to 126 other than ' and backslash
abbrev pub marked : List ℕ → Option ℕ
marked [] = None
marked (b ∷ bs) = if b == 92 then escaped bs else if (length bs == 0) && nat_le 32 b && nat_le b 126 && not (b == 39) then Some b else None

-- the value of the character constant that the text is, if it is one: its byte as a signed char
abbrev pub char_of : List ℕ → Option ℤ
char_of text = option_map (λ b. wrapped 1 true (pos b)) (marked (slice_range text 1 (length text - 1)))
