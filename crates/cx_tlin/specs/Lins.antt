-- Which lexemes spell a word, a linear form or a relation.
use Rattle.std.specs.Prelude.{◌≡◌, ℕ, ℤ, Bool, true, false, List, [], ◌∷◌, ◌++◌, Option, Some, None}
use Rattle.cx_cword.specs.declared.word.Punctuator.{Punctuator}
use Rattle.cx_cword.specs.declared.word.Punctuator.TheVariants as p
use Rattle.cx_cword.specs.Lexemes.{text_of}
use Rattle.cx_tsyn.specs.Words.{WordTree}
use Rattle.cx_tsyn.specs.Lins.{LinPartTree, number, times, symbol, LinTree, RelationTree}
use Rattle.cx_tsyn.specs.declared.lin.SRel.{SRel}
use Rattle.cx_tsyn.specs.declared.lin.SRel.TheVariants as r
use Rattle.cx_tword.specs.declared.lexeme.TypeLexeme.{TypeLexeme}
use Rattle.cx_tword.specs.declared.lexeme.TypeLexemeKind.TheVariants as l
use Rattle.cx_tword.specs.Marks.{Is, is_mark}
use Rattle.cx_reader.specs.Answers.{next_is}
use Rattle.cx_reader.specs.Lists.{Many, Listed}
use Rattle.cx_tlin.specs.Lexemes.{span_of}

-- a name, with the text that stands there
pub data IsName (bytes : List ℕ) : List TypeLexeme → WordTree → Type 0 where
  named : (o : TypeLexeme) → o.kind ≡ l.Name → IsName bytes (o ∷ []) (record { span = o.span; text = text_of bytes o.span })

-- a number, a number times a name, or a name
pub data IsPart (bytes : List ℕ) : List TypeLexeme → LinPartTree → Type 0 where
  part_number : (o : TypeLexeme) (z : ℤ) → o.kind ≡ l.Number z → IsPart bytes (o ∷ []) (number z)
  part_times : {a : List TypeLexeme} {w : WordTree} (o m : TypeLexeme) (z : ℤ) → o.kind ≡ l.Number z → Is p.Star m → IsName bytes a w → IsPart bytes (o ∷ m ∷ a) (times z w)
  part_symbol : {a : List TypeLexeme} {w : WordTree} → IsName bytes a w → IsPart bytes a (symbol w)

-- a part behind its sign, with whether that is a minus
pub data IsSigned (bytes : List ℕ) : List TypeLexeme → Bool × LinPartTree → Type 0 where
  plus_part : {a : List TypeLexeme} {x : LinPartTree} (o : TypeLexeme) → Is p.Plus o → IsPart bytes a x → IsSigned bytes (o ∷ a) (false, x)
  minus_part : {a : List TypeLexeme} {x : LinPartTree} (o : TypeLexeme) → Is p.Minus o → IsPart bytes a x → IsSigned bytes (o ∷ a) (true, x)

-- a linear form: parts, of which the first may be behind a minus, and the others are each behind a sign
pub data IsLin (bytes : List ℕ) : List TypeLexeme → LinTree → Type 0 where
  lin_plain : {a c : List TypeLexeme} {x : LinPartTree} {xs : List (Bool × LinPartTree)} → IsPart bytes a x → Many (IsSigned bytes) c xs
      → IsLin bytes (a ++ c) (record { span = span_of (a ++ c); negative = false; first = x; rest = xs })
  lin_negative : {a c : List TypeLexeme} {x : LinPartTree} {xs : List (Bool × LinPartTree)} (o : TypeLexeme) → Is p.Minus o → IsPart bytes a x → Many (IsSigned bytes) c xs
      → IsLin bytes (o ∷ a ++ c) (record { span = span_of (o ∷ a ++ c); negative = true; first = x; rest = xs })

-- how a punctuator compares
abbrev pub compared_by : Punctuator → Option SRel
compared_by p.Equal = Some r.Eq
compared_by p.NotEqual = Some r.Ne
compared_by p.Less = Some r.Lt
compared_by p.LessEqual = Some r.Le
compared_by p.Greater = Some r.Gt
compared_by p.GreaterEqual = Some r.Ge
compared_by _ = None

-- a relation of two linear forms
pub data IsRelation (bytes : List ℕ) : List TypeLexeme → RelationTree → Type 0 where
  related : {a c : List TypeLexeme} {x y : LinTree} (o : TypeLexeme) (mark : Punctuator) (rel : SRel) → IsLin bytes a x → Is mark o → compared_by mark ≡ Some rel → IsLin bytes c y
      → IsRelation bytes (a ++ o ∷ c) (record { left = x; rel = rel; right = y })

abbrev pub AreNames : List ℕ → List TypeLexeme → List WordTree → Type 0
AreNames bytes = Listed (Is p.Comma) (IsName bytes)

abbrev pub AreLins : List ℕ → List TypeLexeme → List LinTree → Type 0
AreLins bytes = Listed (Is p.Comma) (IsLin bytes)

abbrev pub AreRelations : List ℕ → List TypeLexeme → List RelationTree → Type 0
AreRelations bytes = Listed (Is p.Comma) (IsRelation bytes)

-- ---- lexemes that end what stands before them

-- a name ends before any
abbrev pub EndsName : List TypeLexeme → Type 0
EndsName os = Unit {0}

-- no star: a number may be a factor
abbrev pub EndsPart : List TypeLexeme → Type 0
EndsPart os = next_is (is_mark p.Star) os ≡ false

abbrev pub EndsLin : List TypeLexeme → Type 0
EndsLin os = EndsPart os × (next_is (is_mark p.Plus) os ≡ false) × (next_is (is_mark p.Minus) os ≡ false)

abbrev pub EndsNames : List TypeLexeme → Type 0
EndsNames os = next_is (is_mark p.Comma) os ≡ false

abbrev pub EndsLins : List TypeLexeme → Type 0
EndsLins os = EndsLin os × (next_is (is_mark p.Comma) os ≡ false)
