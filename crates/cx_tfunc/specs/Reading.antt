-- Reading the type of a function from left to right.
use Rattle.std.specs.Prelude.{ℕ, Bool, List, [], length, Option, Some, None, if◌then◌else◌}
use Rattle.cx_base.specs.declared.span.Span.{Span}
use Rattle.cx_cword.specs.declared.word.Punctuator.TheVariants as p
use Rattle.cx_tsyn.specs.Words.{WordTree}
use Rattle.cx_tsyn.specs.Lins.{RelationTree}
use Rattle.cx_tsyn.specs.Cells.{SCellTree}
use Rattle.cx_tsyn.specs.Items.{SResultTree, FuncItemTree}
use Rattle.cx_tword.specs.declared.word.TypeWord.TheVariants as tw
use Rattle.cx_tword.specs.declared.lexeme.TypeLexeme.{TypeLexeme}
use Rattle.cx_tword.specs.Marks.{is_mark, is_word}
use Rattle.cx_reader.specs.Answers.{Answer, fault, ◌>>=◌, give, front_of, at_lexeme, next_at, maybe_at, listed_at}
use Rattle.cx_tlin.specs.Lexemes.{span_of}
use Rattle.cx_tlin.specs.Reading.{word_at, names_at}
use Rattle.cx_tcell.specs.Reading.{cell_at}
use Rattle.cx_ttype.specs.Reading.{binders_at, conds_at, closed_at}
use Rattle.cx_tfunc.specs.Funcs.{names_function, FuncBody, func_of}

unfoldable pub function_name_at : List ℕ → List TypeLexeme → Answer TypeLexeme WordTree
function_name_at bytes os = next_at names_function os (λ o rest. give (word_at bytes o.span) rest)

unfoldable pub function_binders_at : List ℕ → List TypeLexeme → Answer TypeLexeme (List WordTree)
function_binders_at bytes os = maybe_at (is_word tw.Some) [] os (λ o rest. names_at bytes rest)

abbrev pub cells_at : List ℕ → List TypeLexeme → Answer TypeLexeme (List SCellTree)
cells_at bytes = listed_at (is_mark p.Comma) (cell_at bytes)

-- cells and the parenthesis behind them
abbrev pub some_args_at : List ℕ → List TypeLexeme → Answer TypeLexeme (List SCellTree)
some_args_at bytes os = cells_at bytes os >>= λ xs. closed_at p.CloseParen xs.tree xs.rest

-- behind the opening parenthesis
abbrev pub args_from : List ℕ → List TypeLexeme → Answer TypeLexeme (List SCellTree)
args_from bytes os = at_lexeme os (some_args_at bytes os) (λ c rest. if is_mark p.CloseParen c then give [] rest else some_args_at bytes os)

unfoldable pub args_at : List ℕ → List TypeLexeme → Answer TypeLexeme (List SCellTree)
args_at bytes os = next_at (is_mark p.OpenParen) os (λ o rest. args_from bytes rest)

abbrev pub result_from : List ℕ → List TypeLexeme → Answer TypeLexeme (Option SResultTree)
result_from bytes os = binders_at bytes os >>= λ bs. cell_at bytes bs.rest >>= λ x. conds_at bytes x.rest >>= λ cs. give (Some (record { binders = bs.tree; cell = x.tree; conds = cs.tree })) cs.rest

unfoldable pub result_at : List ℕ → List TypeLexeme → Answer TypeLexeme (Option SResultTree)
result_at bytes os = at_lexeme os (result_from bytes os) (λ o rest. if is_word tw.Void o then give None rest else result_from bytes os)

-- a result with the place where these lexemes stand
abbrev pub placed : List TypeLexeme → Option SResultTree → Option SResultTree × Span
placed front x = (x, span_of front)

abbrev pub placed_at : List ℕ → List TypeLexeme → Answer TypeLexeme (Option SResultTree × Span)
placed_at bytes os = result_at bytes os >>= λ x. give (placed (front_of os x.rest) x.tree) x.rest

-- behind the arrow
abbrev pub func_end : List ℕ → WordTree → List WordTree → List SCellTree → List RelationTree → List TypeLexeme → Answer TypeLexeme FuncBody
func_end bytes v bs xs cs os = placed_at bytes os >>= λ y. closed_at p.Semicolon (v, bs, xs, cs, y.tree.0, y.tree.1) y.rest

-- behind the arguments
abbrev pub func_conds : List ℕ → WordTree → List WordTree → List SCellTree → List TypeLexeme → Answer TypeLexeme FuncBody
func_conds bytes v bs xs os = conds_at bytes os >>= λ cs. next_at (is_mark p.Arrow) cs.rest (λ r rest. func_end bytes v bs xs cs.tree rest)

-- behind the word fn
abbrev pub func_from : List ℕ → List TypeLexeme → Answer TypeLexeme FuncBody
func_from bytes os = function_name_at bytes os >>= λ v. function_binders_at bytes v.rest >>= λ bs. args_at bytes bs.rest >>= λ xs. func_conds bytes v.tree bs.tree xs.tree xs.rest

unfoldable pub func_at : List ℕ → List TypeLexeme → Answer TypeLexeme FuncItemTree
func_at bytes os = next_at (is_word tw.Fn) os (λ o rest. func_from bytes rest) >>= λ x. give (func_of (front_of os x.rest) x.tree) x.rest
