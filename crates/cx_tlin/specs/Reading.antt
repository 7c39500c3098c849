-- Reading words, linear forms and relations from left to right.
use Rattle.std.specs.Prelude.{ℕ, suc, ℤ, Bool, true, false, List, [], length, map, Option, Some, None, if◌then◌else◌}
use Rattle.cx_base.specs.declared.span.Span.{Span}
use Rattle.cx_cword.specs.declared.word.Punctuator.TheVariants as p
use Rattle.cx_cword.specs.Lexemes.{text_of}
use Rattle.cx_tsyn.specs.declared.lin.LinPart.{LinPart}
use Rattle.cx_tsyn.specs.declared.lin.SRel.{SRel}
use Rattle.cx_tsyn.specs.Words.{WordTree}
use Rattle.cx_tsyn.specs.Lins.{LinPartTree, number, times, symbol, lin_part_tree, LinTree, RelationTree}
use Rattle.cx_tword.specs.declared.lexeme.TypeLexeme.{TypeLexeme}
use Rattle.cx_tword.specs.declared.lexeme.TypeLexemeKind.{TypeLexemeKind}
use Rattle.cx_tword.specs.declared.lexeme.TypeLexemeKind.TheVariants as l
use Rattle.cx_tword.specs.Marks.{is_mark, is_name}
use Rattle.cx_reader.specs.Answers.{Got, Answer, fault, ◌>>=◌, give, front_of, at_lexeme, next_at, maybe_at, many_at, listed_at}
use Rattle.cx_tlin.specs.declared.forms.LinParts.{LinParts}
use Rattle.cx_tlin.specs.Lexemes.{span_of}
use Rattle.cx_tlin.specs.Kinds.{is_sign, relation_of}

-- ---- words and parts

-- the word that stands at this place
abbrev pub word_at : List ℕ → Span → WordTree
word_at bytes s = record { span = s; text = text_of bytes s }

unfoldable pub name_at : List ℕ → List TypeLexeme → Answer TypeLexeme WordTree
name_at bytes os = next_at is_name os (λ o rest. give (word_at bytes o.span) rest)

-- goes on after a number: a star and a name may follow
unfoldable pub number_at : List ℕ → ℤ → List TypeLexeme → Answer TypeLexeme LinPartTree
number_at bytes z os = maybe_at (is_mark p.Star) (number z) os (λ m rest. name_at bytes rest >>= λ x. give (times z x.tree) x.rest)

abbrev pub part_by : List ℕ → TypeLexeme → (os rest : List TypeLexeme) → TypeLexemeKind → Answer TypeLexeme LinPartTree
part_by bytes o os rest (l.Number z) = number_at bytes z rest
part_by bytes o os rest l.Name = give (symbol (word_at bytes o.span)) rest
part_by bytes o os rest _ = fault (length os)

unfoldable pub part_at : List ℕ → List TypeLexeme → Answer TypeLexeme LinPartTree
part_at bytes os = at_lexeme os (fault (length os)) (λ o rest. part_by bytes o os rest o.kind)

-- ---- linear forms

-- a part behind the sign
abbrev pub signed_at : List ℕ → TypeLexeme → List TypeLexeme → Answer TypeLexeme (Bool × LinPartTree)
signed_at bytes o rest = part_at bytes rest >>= λ x. give (is_mark p.Minus o, x.tree) x.rest

abbrev pub parts_at : List ℕ → List TypeLexeme → Answer TypeLexeme (List (Bool × LinPartTree))
parts_at bytes os = many_at is_sign (signed_at bytes) (suc (length os)) [] os

-- whether a minus stands first, the first part, and the others
abbrev pub LinBody : Type 0
LinBody = Bool × LinPartTree × List (Bool × LinPartTree)

-- from the first part on
unfoldable pub lin_from : List ℕ → (negative : Bool) → List TypeLexeme → Answer TypeLexeme LinBody
lin_from bytes negative os = part_at bytes os >>= λ x. parts_at bytes x.rest >>= λ y. give (negative, x.tree, y.tree) y.rest

unfoldable pub body_at : List ℕ → List TypeLexeme → Answer TypeLexeme LinBody
body_at bytes os = at_lexeme os (fault (length os)) (λ o rest. if is_mark p.Minus o then lin_from bytes true rest else lin_from bytes false os)

-- the linear form that these lexemes spell
abbrev pub lin_of : List TypeLexeme → LinBody → LinTree
lin_of front x = record { span = span_of front; negative = x.0; first = x.1; rest = x.2 }

unfoldable pub lin_at : List ℕ → List TypeLexeme → Answer TypeLexeme LinTree
lin_at bytes os = body_at bytes os >>= λ x. give (lin_of (front_of os x.rest) x.tree) x.rest

-- ---- relations

abbrev pub relation : LinTree → SRel → LinTree → RelationTree
relation x rel y = record { left = x; rel = rel; right = y }

abbrev pub related_by : List ℕ → LinTree → (os rest : List TypeLexeme) → Option SRel → Answer TypeLexeme RelationTree
related_by bytes left os rest (Some rel) = lin_at bytes rest >>= λ y. give (relation left rel y.tree) y.rest
related_by bytes left os rest None = fault (length os)

-- behind the left side
abbrev pub related_at : List ℕ → Got TypeLexeme LinTree → Answer TypeLexeme RelationTree
related_at bytes x = at_lexeme x.rest (fault (length x.rest)) (λ o rest. related_by bytes x.tree x.rest rest (relation_of o.kind))

unfoldable pub relation_at : List ℕ → List TypeLexeme → Answer TypeLexeme RelationTree
relation_at bytes os = lin_at bytes os >>= related_at bytes

-- ---- lists

abbrev pub names_at : List ℕ → List TypeLexeme → Answer TypeLexeme (List WordTree)
names_at bytes = listed_at (is_mark p.Comma) (name_at bytes)

abbrev pub lins_at : List ℕ → List TypeLexeme → Answer TypeLexeme (List LinTree)
lins_at bytes = listed_at (is_mark p.Comma) (lin_at bytes)

abbrev pub relations_at : List ℕ → List TypeLexeme → Answer TypeLexeme (List RelationTree)
relations_at bytes = listed_at (is_mark p.Comma) (relation_at bytes)

-- ---- what the code reads, as plain data

-- a part with whether the sign before it is a minus
abbrev pub signed_tree : Bool × LinPart → Bool × LinPartTree
signed_tree p = (p.0, lin_part_tree p.1)

abbrev pub body_tree : LinParts → LinBody
body_tree b = (b.negative, lin_part_tree b.first, map signed_tree b.rest)
