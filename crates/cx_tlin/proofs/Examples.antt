-- The grammar of linear forms on examples, by what is read.
use Rattle.std.specs.Prelude.{◌≡◌, ℕ, ◌+◌, slice_range, refl, codes, List, [], ◌∷◌, pos, true, false}
use Rattle.cx_cword.specs.declared.lexeme.LexemeKind.TheVariants as cl
use Rattle.cx_cword.specs.declared.word.Punctuator.TheVariants as p
use Rattle.cx_cword.specs.Reading.{span_between}
use Rattle.cx_tsyn.specs.Words.{WordTree}
use Rattle.cx_tsyn.specs.Lins.{number, times, symbol, RelationTree}
use Rattle.cx_tsyn.specs.declared.lin.SRel.TheVariants as r
use Rattle.cx_tword.specs.declared.lexeme.TypeLexeme.{TypeLexeme}
use Rattle.cx_tword.specs.declared.lexeme.TypeLexemeKind.{TypeLexemeKind}
use Rattle.cx_tword.specs.declared.lexeme.TypeLexemeKind.TheVariants as l
use Rattle.cx_reader.specs.Answers.{fault, give, many_at}
use Rattle.cx_tlin.specs.Reading.{name_at, number_at, part_at, lin_from, body_at, lin_at, relation_at, names_at}

abbrev at : ℕ → ℕ → TypeLexemeKind → TypeLexeme
at first past kind = record { span = span_between first past; kind = kind; c_kind = cl.Other }

abbrev text : List ℕ
text = codes "-3*n+m<=k-1"

abbrev word : ℕ → WordTree
word first = record { span = span_between first (first + 1); text = slice_range text first (first + 1) }

abbrev sides : List TypeLexeme
sides =
    at 0 1 (l.Punctuator p.Minus) ∷ at 1 2 (l.Number (pos 3)) ∷ at 2 3 (l.Punctuator p.Star) ∷ at 3 4 l.Name ∷ at 4 5 (l.Punctuator p.Plus) ∷ at 5 6 l.Name ∷ at 6 8 (l.Punctuator p.LessEqual)
    ∷ at 8 9 l.Name ∷ at 9 10 (l.Punctuator p.Minus) ∷ at 10 11 (l.Number (pos 1)) ∷ []

abbrev sides_tree : RelationTree
sides_tree = record {
  left = record { span = span_between 0 6; negative = true; first = times (pos 3) (word 3); rest = (false, symbol (word 5)) ∷ [] };
  rel = r.Le;
  right = record { span = span_between 8 11; negative = false; first = symbol (word 8); rest = (true, number (pos 1)) ∷ [] };
}

-- both sides of a relation, the first with a minus before its first part
a_relation : relation_at text sides ≡ give sides_tree []
unfolding name_at number_at part_at many_at lin_from body_at lin_at relation_at
a_relation = refl

-- a number before a star is a factor, and a sign has a part after it
no_factor : part_at text (at 1 2 (l.Number (pos 3)) ∷ at 2 3 (l.Punctuator p.Star) ∷ []) ≡ fault 0
unfolding name_at number_at part_at
no_factor = refl

no_part_after : lin_at text (at 3 4 l.Name ∷ at 4 5 (l.Punctuator p.Plus) ∷ []) ≡ fault 0
unfolding name_at number_at part_at many_at lin_from body_at lin_at
no_part_after = refl

-- a comma has a name after it
no_name_after : names_at text (at 3 4 l.Name ∷ at 4 5 (l.Punctuator p.Comma) ∷ []) ≡ fault 0
unfolding name_at many_at
no_name_after = refl

-- a sign of comparison has a linear form after it: the fault is at what stands there
no_right_side : relation_at text (at 3 4 l.Name ∷ at 6 8 (l.Punctuator p.LessEqual) ∷ at 2 3 (l.Punctuator p.Star) ∷ at 5 6 l.Name ∷ []) ≡ fault 2
unfolding name_at number_at part_at many_at lin_from body_at lin_at relation_at
no_right_side = refl
