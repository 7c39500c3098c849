-- What a token of a type file is for the grammar.
use Rattle.std.specs.Prelude.{ℕ, pos, Bool, ◌&&◌, ◌||◌, ◌==◌, nat_le, List, map, position, Option, Some, None, if◌then◌else◌, codes}
use Rattle.std.specs.Str.{bytes_eq}
use Rattle.cx_base.specs.declared.number.CInt.{CInt}
use Rattle.cx_base.specs.declared.token.Token.{Token}
use Rattle.cx_base.specs.declared.token.TokenKind.{TokenKind}
use Rattle.cx_base.specs.declared.token.TokenKind.TheVariants as t
use Rattle.cx_cword.specs.declared.lexeme.LexemeKind.{LexemeKind}
use Rattle.cx_cword.specs.declared.lexeme.LexemeKind.TheVariants as cl
use Rattle.cx_cword.specs.declared.word.Keyword.{Keyword}
use Rattle.cx_cword.specs.declared.word.Punctuator.{Punctuator}
use Rattle.cx_cword.specs.Words.{keyword_of, punctuator_of}
use Rattle.cx_cword.specs.Integers.{int_of}
use Rattle.cx_cword.specs.Lexemes.{text_of}
use Rattle.cx_tword.specs.declared.word.TypeWord.{TypeWord}
use Rattle.cx_tword.specs.declared.lexeme.TypeLexeme.{TypeLexeme}
use Rattle.cx_tword.specs.declared.lexeme.TypeLexemeKind.{TypeLexemeKind}
use Rattle.cx_tword.specs.declared.lexeme.TypeLexemeKind.TheVariants as l
use Rattle.cx_tword.specs.Words.{type_word_of, number_after}

-- `any` and a number K: K bytes, from 1 to 4096
abbrev pub any_kind : ℕ → TypeLexemeKind
any_kind k = if nat_le 1 k && nat_le k 4096 then l.AnyBytes k else l.OtherSize

-- the sizes of the integers of C, in bytes
abbrev pub is_int_size : ℕ → Bool
is_int_size k = (k == 1) || (k == 2) || (k == 4) || (k == 8)

-- `u` and a number K: an unsigned number of K bytes
abbrev pub unsigned_kind : ℕ → TypeLexemeKind
unsigned_kind k = if is_int_size k then l.Unsigned k else l.OtherSize

-- `s` and a number K: a signed number of K bytes
abbrev pub signed_kind : ℕ → TypeLexemeKind
signed_kind k = if is_int_size k then l.Signed k else l.OtherSize

-- a reserved word, else `any`, `u` or `s` and a number, else a name
abbrev pub name_kind : Option TypeWord → (any unsigned signed : Option ℕ) → TypeLexemeKind
name_kind (Some w) any unsigned signed = l.Word w
name_kind None (Some k) unsigned signed = any_kind k
name_kind None None (Some k) signed = unsigned_kind k
name_kind None None None (Some k) = signed_kind k
name_kind None None None None = l.Name

-- an integer constant of C (C11 6.4.4.1), without its type
abbrev pub number_kind : Option (ℕ × CInt) → TypeLexemeKind
number_kind None = l.Other
number_kind (Some c) = l.Number (pos c.0)

abbrev pub punctuator_kind : Option Punctuator → TypeLexemeKind
punctuator_kind None = l.Other
punctuator_kind (Some p) = l.Punctuator p

-- what a token of this kind and with this text is
abbrev pub kind_of : TokenKind → List ℕ → TypeLexemeKind
kind_of t.Name text = name_kind (type_word_of text) (number_after (codes "any") text) (number_after (codes "u") text) (number_after (codes "s") text)
kind_of t.Number text = number_kind (int_of text)
kind_of t.Char text = l.Other
kind_of t.Text text = l.Other
kind_of t.Punct text = punctuator_kind (punctuator_of text)

-- what a word is in a type of C, where names is the numbering of the names of the C file
abbrev pub c_word : List (List ℕ) → List ℕ → Option Keyword → LexemeKind
c_word names text (Some k) = cl.Keyword k
c_word names text None = cl.Name (position (bytes_eq text) names)

abbrev pub c_punctuator : Option Punctuator → LexemeKind
c_punctuator None = cl.Other
c_punctuator (Some p) = cl.Punctuator p

-- no constant and no string has a place in a type of C
abbrev pub c_kind_of : List (List ℕ) → TokenKind → List ℕ → LexemeKind
c_kind_of names t.Name text = c_word names text (keyword_of text)
c_kind_of names t.Punct text = c_punctuator (punctuator_of text)
c_kind_of names t.Number text = cl.Other
c_kind_of names t.Char text = cl.Other
c_kind_of names t.Text text = cl.Other

abbrev pub type_lexeme_of : List (List ℕ) → List ℕ → Token → TypeLexeme
type_lexeme_of names bytes token = record {
  span = token.span;
  kind = kind_of token.kind (text_of bytes token.span);
  c_kind = c_kind_of names token.kind (text_of bytes token.span);
}

-- one for each token, in order
abbrev pub type_lexemes : List (List ℕ) → List ℕ → List Token → List TypeLexeme
type_lexemes names bytes tokens = map (type_lexeme_of names bytes) tokens
