-- The words of the command line.
use Rattle.std.specs.Prelude.{ℕ, List, [], ◌∷◌, Option, Some, None, String, map, string_bytes, codes, if◌then◌else◌}
use Rattle.std.specs.Str.{bytes_eq}
use Rattle.std.specs.declared.alloc.Global.{Global}

-- the texts of the words
abbrev pub texts : List (String Global) → List (List ℕ)
texts words = map string_bytes words

-- the names of the C file and of the type file, where the words are `check C T`
abbrev pub form_of : List (List ℕ) → Option (List ℕ × List ℕ)
form_of [] = None
form_of (w ∷ []) = None
form_of (w ∷ c ∷ []) = None
form_of (w ∷ c ∷ t ∷ []) = if bytes_eq w (codes "check") then Some (c, t) else None
form_of (w ∷ c ∷ t ∷ u ∷ rest) = None
