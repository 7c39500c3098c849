-- Where a list of the lexemes of a type file begins and ends.
use Rattle.std.specs.Prelude.{ℕ, List, [], ◌∷◌}
use Rattle.cx_base.specs.declared.span.Span.{Span}
use Rattle.cx_cword.specs.Reading.{span_between}
use Rattle.cx_tword.specs.declared.lexeme.TypeLexeme.{TypeLexeme}

-- the place of the first byte of a list of lexemes, and the one past its last
abbrev pub first_of : List TypeLexeme → ℕ
first_of [] = 0
first_of (o ∷ os) = o.span.first

abbrev pub past_of : List TypeLexeme → ℕ
past_of [] = 0
past_of (o ∷ []) = o.span.past
past_of (o ∷ n ∷ os) = past_of (n ∷ os)

-- from the first of the lexemes to the last
abbrev pub span_of : List TypeLexeme → Span
span_of os = span_between (first_of os) (past_of os)
