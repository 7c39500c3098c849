-- Lines and columns of a text, both counted from 1.
use Rattle.std.specs.Prelude.{ℕ, ◌+◌, ◌==◌, List, Bool, take, length, count_by}
use Rattle.std.specs.List.{after_last}

-- the byte is a newline
abbrev pub is_newline : ℕ → Bool
is_newline b = b == 10

-- the line on which the byte at this offset stands: one more than the newlines before it
abbrev pub line_of : List ℕ → ℕ → ℕ
line_of text at = 1 + count_by is_newline (take at text)

-- its column on that line: one more than the bytes since the last newline before it
abbrev pub column_of : List ℕ → ℕ → ℕ
column_of text at = 1 + length (after_last is_newline (take at text))
