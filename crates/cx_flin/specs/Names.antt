-- Names with the numbers of their symbols, in the order in which they are declared.
use Rattle.std.specs.Prelude.{ℕ, ◌+◌, List, [], ◌∷◌, Option, Some, None, if◌then◌else◌}
use Rattle.std.specs.Str.{bytes_eq}
use Rattle.cx_tsyn.specs.Words.{WordTree}

-- the words with the symbols from `next` on
abbrev pub numbered : (next : ℕ) → List WordTree → List (List ℕ × ℕ)
numbered next [] = []
numbered next (w ∷ ws) = (w.text, next) ∷ numbered (next + 1) ws

-- the symbol of the last name of this text, or where there is none, this one
abbrev pub last_symbol : Option ℕ → List (List ℕ × ℕ) → List ℕ → Option ℕ
last_symbol before [] text = before
last_symbol before (n ∷ ns) text = last_symbol (if bytes_eq n.0 text then Some n.1 else before) ns text

-- the symbol of a name: of several the one that is declared last
abbrev pub symbol_in : List (List ℕ × ℕ) → List ℕ → Option ℕ
symbol_in ns text = last_symbol None ns text
