-- Reading cells from left to right.
use Rattle.std.specs.Prelude.{ℕ, Bool, true, false, List, length, Option, Some, None}
use Rattle.cx_cword.specs.declared.word.Punctuator.TheVariants as p
use Rattle.cx_tsyn.specs.Lins.{LinTree}
use Rattle.cx_tsyn.specs.Cells.{SCellKindTree, any, any_bytes, val, unsigned, signed, ptr, SCellTree}
use Rattle.cx_tword.specs.declared.word.TypeWord.TheVariants as tw
use Rattle.cx_tword.specs.declared.lexeme.TypeLexeme.{TypeLexeme}
use Rattle.cx_tword.specs.declared.lexeme.TypeLexemeKind.{TypeLexemeKind}
use Rattle.cx_tword.specs.declared.lexeme.TypeLexemeKind.TheVariants as l
use Rattle.cx_tword.specs.Marks.{is_mark, is_word}
use Rattle.cx_reader.specs.Answers.{Answer, fault, ◌>>=◌, give, front_of, at_lexeme, maybe_at, enclosed_at}
use Rattle.cx_tlin.specs.Lexemes.{span_of}
use Rattle.cx_tlin.specs.Reading.{name_at, lin_at}

-- nothing, or one or more in parentheses
abbrev pub in_parentheses_at : {A : Type 0} → (List TypeLexeme → Answer TypeLexeme A) → List TypeLexeme → Answer TypeLexeme (List A)
in_parentheses_at = enclosed_at (is_mark p.OpenParen) (is_mark p.Comma) (is_mark p.CloseParen)

unfoldable pub offset_at : List ℕ → List TypeLexeme → Answer TypeLexeme (Option LinTree)
offset_at bytes os = maybe_at (is_mark p.Plus) None os (λ o rest. lin_at bytes rest >>= λ x. give (Some x.tree) x.rest)

unfoldable pub null_at : List TypeLexeme → Answer TypeLexeme Bool
null_at os = maybe_at (is_word tw.Null) false os (λ o rest. give true rest)

-- behind the word ptr
unfoldable pub pointer_at : List ℕ → List TypeLexeme → Answer TypeLexeme SCellKindTree
pointer_at bytes os =
    name_at bytes os >>= λ v. in_parentheses_at (lin_at bytes) v.rest >>= λ xs. offset_at bytes xs.rest >>= λ y. null_at y.rest >>= λ z.
    give (ptr v.tree xs.tree y.tree z.tree) z.rest

-- a number behind a word
abbrev pub number_of : List ℕ → (LinTree → SCellKindTree) → List TypeLexeme → Answer TypeLexeme SCellKindTree
number_of bytes make os = lin_at bytes os >>= λ x. give (make x.tree) x.rest

abbrev pub holds_by : List ℕ → (os rest : List TypeLexeme) → TypeLexemeKind → Answer TypeLexeme SCellKindTree
holds_by bytes os rest (l.Word tw.Any) = give any rest
holds_by bytes os rest (l.Word tw.Val) = number_of bytes val rest
holds_by bytes os rest (l.Word tw.Ptr) = pointer_at bytes rest
holds_by bytes os rest (l.AnyBytes k) = give (any_bytes k) rest
holds_by bytes os rest (l.Unsigned k) = number_of bytes (unsigned k) rest
holds_by bytes os rest (l.Signed k) = number_of bytes (signed k) rest
holds_by bytes os rest _ = fault (length os)

unfoldable pub holds_at : List ℕ → List TypeLexeme → Answer TypeLexeme SCellKindTree
holds_at bytes os = at_lexeme os (fault (length os)) (λ o rest. holds_by bytes os rest o.kind)

-- the cell that these lexemes spell
abbrev pub cell_of : List TypeLexeme → SCellKindTree → SCellTree
cell_of front k = record { span = span_of front; kind = k }

unfoldable pub cell_at : List ℕ → List TypeLexeme → Answer TypeLexeme SCellTree
cell_at bytes os = holds_at bytes os >>= λ x. give (cell_of (front_of os x.rest) x.tree) x.rest
