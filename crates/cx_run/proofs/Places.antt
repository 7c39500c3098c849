-- A place past the end of a text is the place of its end.
use Rattle.std.proofs.Common.{◌≡◌, ℕ, List, length, min, refl}
use Rattle.std.proofs.lemmas.List.{take_min}
use Rattle.cx_base.specs.Place.{line_of, column_of}

pub line_within : (text : List ℕ) (at : ℕ) → line_of text (min at (length text)) ≡ line_of text at
line_within text at = rw take_min refl

pub column_within : (text : List ℕ) (at : ℕ) → column_of text (min at (length text)) ≡ column_of text at
column_within text at = rw take_min refl
