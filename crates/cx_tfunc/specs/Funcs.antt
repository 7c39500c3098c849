-- Which lexemes spell the type of a function.
use Rattle.std.specs.Prelude.{◌≡◌, ℕ, Bool, true, false, ◌&&◌, List, [], ◌∷◌, ◌++◌, Option, Some, None}
use Rattle.cx_base.specs.declared.span.Span.{Span}
use Rattle.cx_cword.specs.declared.lexeme.LexemeKind.{LexemeKind}
use Rattle.cx_cword.specs.declared.lexeme.LexemeKind.TheVariants as cl
use Rattle.cx_cword.specs.declared.word.Punctuator.TheVariants as p
use Rattle.cx_tsyn.specs.Words.{WordTree}
use Rattle.cx_tsyn.specs.Lins.{RelationTree}
use Rattle.cx_tsyn.specs.Cells.{SCellTree}
use Rattle.cx_tsyn.specs.Items.{SResultTree, FuncItemTree}
use Rattle.cx_tword.specs.declared.word.TypeWord.TheVariants as tw
use Rattle.cx_tword.specs.declared.lexeme.TypeLexeme.{TypeLexeme}
use Rattle.cx_tword.specs.Marks.{Is, IsWord, is_name}
use Rattle.cx_reader.specs.Lists.{Listed}
use Rattle.cx_tlin.specs.Lexemes.{span_of}
use Rattle.cx_tlin.specs.Lins.{AreNames}
use Rattle.cx_tlin.specs.Reading.{word_at}
use Rattle.cx_tcell.specs.Cells.{IsCell}
use Rattle.cx_ttype.specs.Types.{AreBinders, AreConds}

-- a name in C: no keyword of C11 (6.4.1) and no word that GNU C adds
abbrev pub kind_is_c_name : LexemeKind → Bool
kind_is_c_name (cl.Name n) = true
kind_is_c_name _ = false

-- a name here, and in C too
abbrev pub names_function : TypeLexeme → Bool
names_function o = is_name o && kind_is_c_name o.c_kind

pub data IsFunctionName (bytes : List ℕ) : List TypeLexeme → WordTree → Type 0 where
  function_named : (o : TypeLexeme) → names_function o ≡ true → IsFunctionName bytes (o ∷ []) (word_at bytes o.span)

-- nothing, or names behind the word some
pub data AreFunctionBinders (bytes : List ℕ) : List TypeLexeme → List WordTree → Type 0 where
  no_function_binders : AreFunctionBinders bytes [] []
  function_binders : {a : List TypeLexeme} {xs : List WordTree} (o : TypeLexeme) → IsWord tw.Some o → AreNames bytes a xs → AreFunctionBinders bytes (o ∷ a) xs

-- cells in parentheses with commas between them, of which there may be none
pub data AreArgs (bytes : List ℕ) : List TypeLexeme → List SCellTree → Type 0 where
  no_args : (o c : TypeLexeme) → Is p.OpenParen o → Is p.CloseParen c → AreArgs bytes (o ∷ c ∷ []) []
  some_args : {a : List TypeLexeme} {xs : List SCellTree} (o c : TypeLexeme) → Is p.OpenParen o → Listed (Is p.Comma) (IsCell bytes) a xs → Is p.CloseParen c → AreArgs bytes (o ∷ a ++ c ∷ []) xs

-- the word void, or names between the words some and of, a cell and conditions, of which there may be none
pub data IsResult (bytes : List ℕ) : List TypeLexeme → Option SResultTree → Type 0 where
  result_void : (o : TypeLexeme) → IsWord tw.Void o → IsResult bytes (o ∷ []) None
  a_result : {a b c : List TypeLexeme} {bs : List WordTree} {x : SCellTree} {cs : List RelationTree} → AreBinders bytes a bs → IsCell bytes b x → AreConds bytes c cs → IsResult bytes (a ++ (b ++ c)) (Some (record { binders = bs; cell = x; conds = cs }))

-- a name, binders, arguments, conditions, and a result with the place where it stands
abbrev pub FuncBody : Type 0
FuncBody = WordTree × List WordTree × List SCellTree × List RelationTree × Option SResultTree × Span

-- the type of a function that these lexemes spell
abbrev pub func_of : List TypeLexeme → FuncBody → FuncItemTree
func_of os x = record { span = span_of os; name = x.0; binders = x.1; args = x.2; conds = x.3; result = x.4; result_span = x.5 }

-- the word fn, a name, binders, arguments, conditions, an arrow, a result and a semicolon
pub data IsFunc (bytes : List ℕ) : List TypeLexeme → FuncItemTree → Type 0 where
  a_func : {v a b c d : List TypeLexeme} {name : WordTree} {bs : List WordTree} {xs : List SCellTree} {cs : List RelationTree} {result : Option SResultTree} (o r s : TypeLexeme) → IsWord tw.Fn o → IsFunctionName bytes v name → AreFunctionBinders bytes a bs → AreArgs bytes b xs → AreConds bytes c cs → Is p.Arrow r
      → IsResult bytes d result → Is p.Semicolon s
      → IsFunc bytes (o ∷ v ++ (a ++ (b ++ (c ++ (r ∷ d ++ s ∷ []))))) (func_of (o ∷ v ++ (a ++ (b ++ (c ++ (r ∷ d ++ s ∷ []))))) (name, bs, xs, cs, result, span_of d))
