-- Which lexemes spell a cell.
use Rattle.std.specs.Prelude.{◌≡◌, ℕ, Bool, true, false, List, [], ◌∷◌, ◌++◌, Option, Some, None}
use Rattle.cx_cword.specs.declared.word.Punctuator.TheVariants as p
use Rattle.cx_tsyn.specs.Words.{WordTree}
use Rattle.cx_tsyn.specs.Lins.{LinTree}
use Rattle.cx_tsyn.specs.Cells.{SCellKindTree, any, any_bytes, val, unsigned, signed, ptr, SCellTree}
use Rattle.cx_tword.specs.declared.word.TypeWord.TheVariants as tw
use Rattle.cx_tword.specs.declared.lexeme.TypeLexeme.{TypeLexeme}
use Rattle.cx_tword.specs.declared.lexeme.TypeLexemeKind.{TypeLexemeKind}
use Rattle.cx_tword.specs.declared.lexeme.TypeLexemeKind.TheVariants as l
use Rattle.cx_tword.specs.Marks.{Is, IsWord}
use Rattle.cx_reader.specs.Answers.{next_is}
use Rattle.cx_reader.specs.Lists.{Enclosed}
use Rattle.cx_tlin.specs.Lexemes.{span_of}
use Rattle.cx_tlin.specs.Lins.{IsName, IsLin}

-- nothing, or one or more in parentheses with commas between them
abbrev pub InParentheses : {A : Type 0} → (List TypeLexeme → A → Type 0) → List TypeLexeme → List A → Type 0
InParentheses = Enclosed (Is p.OpenParen) (Is p.Comma) (Is p.CloseParen)

-- nothing, or a linear form behind a plus
pub data IsOffset (bytes : List ℕ) : List TypeLexeme → Option LinTree → Type 0 where
  no_offset : IsOffset bytes [] None
  an_offset : {a : List TypeLexeme} {x : LinTree} (o : TypeLexeme) → Is p.Plus o → IsLin bytes a x → IsOffset bytes (o ∷ a) (Some x)

-- nothing, or the word null
pub data IsNull : List TypeLexeme → Bool → Type 0 where
  no_null : IsNull [] false
  a_null : (o : TypeLexeme) → IsWord tw.Null o → IsNull (o ∷ []) true

-- what a cell holds
pub data Holds (bytes : List ℕ) : List TypeLexeme → SCellKindTree → Type 0 where
  holds_any : (o : TypeLexeme) → IsWord tw.Any o → Holds bytes (o ∷ []) any
  holds_any_bytes : (o : TypeLexeme) (k : ℕ) → o.kind ≡ l.AnyBytes k → Holds bytes (o ∷ []) (any_bytes k)
  holds_val : {a : List TypeLexeme} {x : LinTree} (o : TypeLexeme) → IsWord tw.Val o → IsLin bytes a x → Holds bytes (o ∷ a) (val x)
  holds_unsigned : {a : List TypeLexeme} {x : LinTree} (o : TypeLexeme) (k : ℕ) → o.kind ≡ l.Unsigned k → IsLin bytes a x → Holds bytes (o ∷ a) (unsigned k x)
  holds_signed : {a : List TypeLexeme} {x : LinTree} (o : TypeLexeme) (k : ℕ) → o.kind ≡ l.Signed k → IsLin bytes a x → Holds bytes (o ∷ a) (signed k x)
  holds_ptr : {v a b c : List TypeLexeme} {name : WordTree} {args : List LinTree} {off : Option LinTree} {null : Bool} (o : TypeLexeme) → IsWord tw.Ptr o → IsName bytes v name → InParentheses (IsLin bytes) a args → IsOffset bytes b off → IsNull c null
      → Holds bytes (o ∷ v ++ (a ++ (b ++ c))) (ptr name args off null)

-- a cell
pub data IsCell (bytes : List ℕ) : List TypeLexeme → SCellTree → Type 0 where
  is_cell : {a : List TypeLexeme} {k : SCellKindTree} → Holds bytes a k → IsCell bytes a (record { span = span_of a; kind = k })

-- what may go on with a cell: a star, a sign, a parenthesis, the word null
abbrev pub goes_cell : TypeLexemeKind → Bool
goes_cell (l.Punctuator p.Star) = true
goes_cell (l.Punctuator p.Plus) = true
goes_cell (l.Punctuator p.Minus) = true
goes_cell (l.Punctuator p.OpenParen) = true
goes_cell (l.Word tw.Null) = true
goes_cell _ = false

-- none of these
abbrev pub EndsCell : List TypeLexeme → Type 0
EndsCell os = next_is (λ o. goes_cell o.kind) os ≡ false
