-- The grammar of types on examples, by what is read.
use Rattle.std.specs.Prelude.{◌≡◌, ℕ, slice_range, refl, codes, List, [], ◌∷◌, None, false}
use Rattle.cx_cword.specs.declared.lexeme.LexemeKind.TheVariants as cl
use Rattle.cx_cword.specs.declared.word.Punctuator.TheVariants as p
use Rattle.cx_cword.specs.Reading.{span_between}
use Rattle.cx_tsyn.specs.Words.{WordTree}
use Rattle.cx_tsyn.specs.Cells.{any_bytes}
use Rattle.cx_tsyn.specs.Types.{STypeTree, stype, cell, tagged, product, no_type, no_field, also_field}
use Rattle.cx_tword.specs.declared.word.TypeWord.TheVariants as tw
use Rattle.cx_tword.specs.declared.lexeme.TypeLexeme.{TypeLexeme}
use Rattle.cx_tword.specs.declared.lexeme.TypeLexemeKind.{TypeLexemeKind}
use Rattle.cx_tword.specs.declared.lexeme.TypeLexemeKind.TheVariants as l
use Rattle.cx_reader.specs.Answers.{fault, give, many_at}
use Rattle.cx_tlin.specs.Reading.{name_at, number_at, part_at, lin_from, body_at, lin_at, relation_at}
use Rattle.cx_tcell.specs.Reading.{offset_at, null_at, pointer_at, holds_at, cell_at}
use Rattle.cx_ttype.specs.Reading.{binders_at, times_at, conds_at, tag_at, as_tag_at, atom_at, type_at}

abbrev at : ℕ → ℕ → TypeLexemeKind → TypeLexeme
at first past kind = record { span = span_between first past; kind = kind; c_kind = cl.Other }

abbrev text : List ℕ
text = codes "struct s{val:any8;}"

abbrev word : ℕ → ℕ → WordTree
word first past = record { span = span_between first past; text = slice_range text first past }

abbrev bytes_at : ℕ → ℕ → ℕ → STypeTree
bytes_at first past k = stype (span_between first past) [] (cell (record { span = span_between first past; kind = any_bytes k })) None []

abbrev open_brace : TypeLexeme
open_brace = at 8 9 (l.Punctuator p.OpenBrace)

abbrev close_brace : TypeLexeme
close_brace = at 18 19 (l.Punctuator p.CloseBrace)

-- a member may be named as a reserved word
a_struct : type_at text 8 (at 0 6 (l.Word tw.Struct) ∷ at 7 8 l.Name ∷ open_brace ∷ at 9 12 (l.Word tw.Val) ∷ at 12 13 (l.Punctuator p.Colon) ∷ at 13 17 (l.AnyBytes 8) ∷ at 17 18 (l.Punctuator p.Semicolon) ∷ close_brace ∷ [])
    ≡ give (stype (span_between 0 19) [] (tagged false (word 7 8) (also_field (word 9 12) (bytes_at 13 17 8) no_field)) None []) []
unfolding name_at number_at part_at many_at lin_from body_at lin_at relation_at offset_at null_at pointer_at holds_at cell_at binders_at times_at conds_at tag_at as_tag_at atom_at
a_struct = refl

-- but not as a keyword of C
no_member : type_at text 6 (at 0 6 (l.Word tw.Struct) ∷ at 7 8 l.Name ∷ open_brace ∷ at 9 12 (l.Word tw.For) ∷ at 12 13 (l.Punctuator p.Colon) ∷ []) ≡ fault 2
unfolding name_at number_at part_at many_at lin_from body_at lin_at relation_at offset_at null_at pointer_at holds_at cell_at binders_at times_at conds_at tag_at as_tag_at atom_at
no_member = refl

-- types in a row, of which there may be none
none_in_a_row : type_at text 3 (open_brace ∷ close_brace ∷ []) ≡ give (stype (span_between 8 19) [] (product no_type None) None []) []
unfolding name_at number_at part_at many_at lin_from body_at lin_at relation_at offset_at null_at pointer_at holds_at cell_at binders_at times_at conds_at tag_at as_tag_at atom_at
none_in_a_row = refl

-- the word cases has a branch
no_branch : type_at text 4 (at 0 5 (l.Word tw.Cases) ∷ open_brace ∷ close_brace ∷ []) ≡ fault 1
unfolding name_at number_at part_at many_at lin_from body_at lin_at relation_at offset_at null_at pointer_at holds_at cell_at binders_at times_at conds_at tag_at as_tag_at atom_at
no_branch = refl
