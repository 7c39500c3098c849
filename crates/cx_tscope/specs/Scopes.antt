-- The names that may be used at a place of a type file, as a list of texts in which each stands once.
use Rattle.std.specs.Prelude.{ℕ, Bool, not, List, [], ◌∷◌, ◌++◌}
use Rattle.std.specs.List.{list_any}
use Rattle.std.specs.Str.{bytes_eq}
use Rattle.cx_base.specs.declared.span.Span.{Span}
use Rattle.cx_base.specs.Names.{numbered}
use Rattle.cx_tsyn.specs.Words.{WordTree}
use Rattle.cx_tscope.specs.Faults.{unless}

-- the word is one of the names
abbrev pub is_known : List (List ℕ) → WordTree → Bool
is_known names w = list_any (bytes_eq w.text) names

-- the names once these words are declared too
abbrev pub with_words : List (List ℕ) → List WordTree → List (List ℕ)
with_words names [] = names
with_words names (w ∷ ws) = with_words (numbered names w.text) ws

-- the word where it is none of the names
abbrev pub unknown_word : List (List ℕ) → WordTree → List Span
unknown_word names w = unless (is_known names w) w

-- those of the words, declared one after the other, that are a name already
abbrev pub doubled_words : List (List ℕ) → List WordTree → List Span
doubled_words names [] = []
doubled_words names (w ∷ ws) = unless (not (is_known names w)) w ++ doubled_words (numbered names w.text) ws
