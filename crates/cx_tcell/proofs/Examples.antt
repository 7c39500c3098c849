-- The grammar of cells on examples, by what is read.
use Rattle.std.specs.Prelude.{◌≡◌, ℕ, ◌+◌, slice_range, refl, codes, List, [], ◌∷◌, Some, pos, true, false}
use Rattle.cx_cword.specs.declared.lexeme.LexemeKind.TheVariants as cl
use Rattle.cx_cword.specs.declared.word.Punctuator.TheVariants as p
use Rattle.cx_cword.specs.Reading.{span_between}
use Rattle.cx_tsyn.specs.Words.{WordTree}
use Rattle.cx_tsyn.specs.Lins.{LinTree, number, symbol}
use Rattle.cx_tsyn.specs.Cells.{any_bytes, ptr}
use Rattle.cx_tword.specs.declared.word.TypeWord.TheVariants as tw
use Rattle.cx_tword.specs.declared.lexeme.TypeLexeme.{TypeLexeme}
use Rattle.cx_tword.specs.declared.lexeme.TypeLexemeKind.{TypeLexemeKind}
use Rattle.cx_tword.specs.declared.lexeme.TypeLexemeKind.TheVariants as l
use Rattle.cx_reader.specs.Answers.{fault, give, many_at}
use Rattle.cx_tlin.specs.Reading.{name_at, number_at, part_at, lin_from, body_at, lin_at}
use Rattle.cx_tcell.specs.Reading.{offset_at, null_at, pointer_at, holds_at, cell_at}

abbrev at : ℕ → ℕ → TypeLexemeKind → TypeLexeme
at first past kind = record { span = span_between first past; kind = kind; c_kind = cl.Other }

abbrev text : List ℕ
text = codes "ptr v(n)+8 null;"

abbrev word : ℕ → WordTree
word first = record { span = span_between first (first + 1); text = slice_range text first (first + 1) }

abbrev n : LinTree
n = record { span = span_between 6 7; negative = false; first = symbol (word 6); rest = [] }

abbrev eight : LinTree
eight = record { span = span_between 9 10; negative = false; first = number (pos 8); rest = [] }

abbrev pointer : List TypeLexeme
pointer = at 0 3 (l.Word tw.Ptr) ∷ at 4 5 l.Name ∷ at 5 6 (l.Punctuator p.OpenParen) ∷ at 6 7 l.Name ∷ at 7 8 (l.Punctuator p.CloseParen) ∷ at 8 9 (l.Punctuator p.Plus) ∷ at 9 10 (l.Number (pos 8)) ∷ at 11 15 (l.Word tw.Null) ∷ at 15 16 (l.Punctuator p.Semicolon) ∷ []

a_pointer : cell_at text pointer ≡ give (record { span = span_between 0 15; kind = ptr (word 4) (n ∷ []) (Some eight) true }) (at 15 16 (l.Punctuator p.Semicolon) ∷ [])
unfolding name_at number_at part_at many_at lin_from body_at lin_at offset_at null_at pointer_at holds_at cell_at
a_pointer = refl

-- the word null stands at the end
no_null_again : cell_at text (at 0 4 (l.AnyBytes 4) ∷ at 11 15 (l.Word tw.Null) ∷ []) ≡ give (record { span = span_between 0 4; kind = any_bytes 4 }) (at 11 15 (l.Word tw.Null) ∷ [])
unfolding holds_at cell_at
no_null_again = refl

-- a sign has a part after it
no_offset_after : cell_at text (at 0 3 (l.Word tw.Ptr) ∷ at 4 5 l.Name ∷ at 8 9 (l.Punctuator p.Plus) ∷ at 15 16 (l.Punctuator p.Semicolon) ∷ []) ≡ fault 1
unfolding name_at number_at part_at many_at lin_from body_at lin_at offset_at null_at pointer_at holds_at cell_at
no_offset_after = refl
