-- What a token is for the grammar, where names is the numbering of the names.
use Rattle.std.specs.Prelude.{ℕ, ℤ, pos, Bool, ◌||◌, List, map, Option, Some, None, slice_range, position, if◌then◌else◌, codes}
use Rattle.std.specs.Str.{bytes_eq}
use Rattle.cx_base.specs.declared.number.CInt.{CInt}
use Rattle.cx_base.specs.declared.span.Span.{Span}
use Rattle.cx_base.specs.declared.token.Token.{Token}
use Rattle.cx_base.specs.declared.token.TokenKind.{TokenKind}
use Rattle.cx_base.specs.declared.token.TokenKind.TheVariants as t
use Rattle.cx_ctree.specs.Conversions.{signed_int}
use Rattle.cx_cword.specs.declared.word.Keyword.{Keyword}
use Rattle.cx_cword.specs.declared.word.Punctuator.{Punctuator}
use Rattle.cx_cword.specs.declared.lexeme.Lexeme.{Lexeme}
use Rattle.cx_cword.specs.declared.lexeme.LexemeKind.{LexemeKind}
use Rattle.cx_cword.specs.declared.lexeme.LexemeKind.TheVariants as l
use Rattle.cx_cword.specs.Words.{same_text, keyword_of, punctuator_of}
use Rattle.cx_cword.specs.Integers.{int_of}
use Rattle.cx_cword.specs.Characters.{char_of}

-- an attribute of this name changes a type
unfoldable pub changes_type : List ℕ → Bool
changes_type text = same_text text (codes "mode") || same_text text (codes "__mode__") || same_text text (codes "vector_size") || same_text text (codes "__vector_size__")

abbrev pub word_kind : List (List ℕ) → List ℕ → Option Keyword → LexemeKind
word_kind names text (Some k) = l.Keyword k
word_kind names text None = if changes_type text then l.Attributive (position (bytes_eq text) names) else l.Name (position (bytes_eq text) names)

abbrev pub number_kind : Option (ℕ × CInt) → LexemeKind
number_kind None = l.Other
number_kind (Some c) = l.Constant (pos c.0) c.1

-- a character constant has the type int (C11 6.4.4.4)
abbrev pub char_kind : Option ℤ → LexemeKind
char_kind None = l.Other
char_kind (Some v) = l.Constant v signed_int

abbrev pub punctuator_kind : Option Punctuator → LexemeKind
punctuator_kind None = l.Other
punctuator_kind (Some p) = l.Punctuator p

abbrev pub kind_of : List (List ℕ) → TokenKind → List ℕ → LexemeKind
kind_of names t.Name text = word_kind names text (keyword_of text)
kind_of names t.Number text = number_kind (int_of text)
kind_of names t.Char text = char_kind (char_of text)
kind_of names t.Text text = l.Other
kind_of names t.Punct text = punctuator_kind (punctuator_of text)

-- the piece of a text
abbrev pub text_of : List ℕ → Span → List ℕ
text_of bytes s = slice_range bytes s.first s.past

abbrev pub lexeme_of : List (List ℕ) → List ℕ → Token → Lexeme
lexeme_of names bytes token = record { span = token.span; kind = kind_of names token.kind (text_of bytes token.span) }

abbrev pub lexemes : List (List ℕ) → List ℕ → List Token → List Lexeme
lexemes names bytes tokens = map (lexeme_of names bytes) tokens
