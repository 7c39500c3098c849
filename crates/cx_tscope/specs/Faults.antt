-- The words and types at fault, as the list of their places in an order, and which of them is answered.
use Rattle.std.specs.Prelude.{Bool, true, false, List, [], ◌∷◌, Option, Some, None}
use Rattle.cx_base.specs.declared.span.Span.{Span}
use Rattle.cx_tsyn.specs.Words.{WordTree}

-- the first of the places
abbrev pub first : List Span → Option Span
first [] = None
first (s ∷ ss) = Some s

-- the place, or the first of these
abbrev pub first_of : Option Span → List Span → Option Span
first_of None ss = first ss
first_of (Some s) ss = Some s

-- the place of the word, unless it is right
abbrev pub unless : (right : Bool) → WordTree → List Span
unless true w = []
unless false w = w.span ∷ []
