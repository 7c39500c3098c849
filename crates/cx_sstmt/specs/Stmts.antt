-- The types in statements (C11 6.8), or the first rule on types that is broken: parts are judged before the whole, in the order of the text.
use Rattle.std.specs.Prelude.{ℕ, Bool, true, ◌&&◌, List, length, Option, Some, None, Ok, if◌then◌else◌}
use Rattle.cx_base.specs.declared.span.Span.{Span}
use Rattle.cx_base.specs.declared.number.CInt.{CInt}
use Rattle.cx_ctree.specs.Conversions.{promoted}
use Rattle.cx_ctree.specs.Types.{TypeTree}
use Rattle.cx_ctree.specs.Exprs.{ExprTree, span_of, RhsTree, EffectTree}
use Rattle.cx_ctree.specs.Stmts.{StmtTree, stmt, StmtKindTree, block, empty, effect, declare, if_alone, if_else, while, do_while, for, switch, break, continue, return, StmtTrees, no_stmt, also_stmt, GroupTrees, no_group, also_group}
use Rattle.cx_ctype.specs.Operations.{is_int, is_scalar, number_type}
use Rattle.cx_sname.specs.File.{Declared}
use Rattle.cx_scope.specs.Locals.{Locals, declared, is_new, opened, closed}
use Rattle.cx_snode.specs.Judging.{Judged, breaks, ◌>>=◌}
use Rattle.cx_snode.specs.Nodes.{value_of}
use Rattle.cx_sexpr.specs.Typing.{typed}
use Rattle.cx_seffect.specs.Calls.{Taken, is_void, assigned, typed_rhs}
use Rattle.cx_seffect.specs.Effects.{typed_effect, typed_effects, typed_condition, typed_optional}
use Rattle.cx_sstmt.specs.Labels.{Seen, none_seen, typed_labels}

-- what stands around a statement
pub record Around : Type 0 where
  -- the result of its function
  pub result : TypeTree
  -- a loop is around it
  pub looped : Bool
  -- a loop or a switch is around it
  pub breakable : Bool

abbrev pub in_loop : Around → Around
in_loop around = record around { looped = true; breakable = true }

abbrev pub in_switch : Around → Around
in_switch around = record around { breakable = true }

-- a tree, and the locals after it
pub record After (A : Type 0) : Type 0 where
  pub tree : A
  pub locals : Locals

abbrev pub gives : {A : Type 0} → A → Locals → Judged (After A)
gives x ls = Ok (record { tree = x; locals = ls })

-- ---- declarations, results and switches

-- a variable of a block
abbrev pub is_variable : Locals → ℕ → TypeTree → Bool
is_variable ls n t = is_scalar t && is_new ls n

abbrev pub variable : Span → (new : Bool) → (number : ℕ) → TypeTree → Judged StmtTree
variable s new x t = if new then Ok (stmt s (declare x t None)) else breaks s 12

-- a variable whose initialiser has been judged
abbrev pub initialised : Span → (new : Bool) → (number : ℕ) → TypeTree → Taken → Judged StmtTree
initialised s new x t v = if new then assigned t v >>= (λ r. Ok (stmt s (declare x t (Some r)))) else breaks s 12

-- a local is in scope in its own initialiser (C11 6.2.1)
abbrev pub variable_by : Declared → Locals → Span → ℕ → TypeTree → Option RhsTree → Judged StmtTree
variable_by env ls s n t None = variable s (is_variable ls n t) (length ls.types) t
variable_by env ls s n t (Some r) = typed_rhs env (declared n t ls) r >>= initialised s (is_variable ls n t) (length ls.types) t

abbrev pub typed_variable : Declared → Locals → Span → ℕ → TypeTree → Option RhsTree → Judged (After StmtTree)
typed_variable env ls s n t r = variable_by env ls s n t r >>= (λ d. gives d (declared n t ls))

abbrev pub returned : Span → (result : TypeTree) → Taken → Judged StmtTree
returned s t v = if is_void t then breaks s 9 else assigned t v >>= (λ r. Ok (stmt s (return (Some r))))

-- C11 6.8.6.4
abbrev pub typed_return : Declared → Locals → Span → (result : TypeTree) → Option RhsTree → Judged StmtTree
typed_return env ls s t None = if is_void t then Ok (stmt s (return None)) else breaks s 9
typed_return env ls s t (Some r) = typed_rhs env ls r >>= returned s t

-- a jump that may stand where it stands (C11 6.8.6.2, 6.8.6.3)
abbrev pub typed_jump : Span → (may : Bool) → StmtKindTree → Judged StmtTree
typed_jump s may k = if may then Ok (stmt s k) else breaks s 11

-- an effect as a statement (C11 6.8.3)
abbrev pub typed_alone : Declared → Locals → Span → EffectTree → Judged StmtTree
typed_alone env ls s e = typed_effect env ls e >>= (λ f. Ok (stmt s (effect f)))

-- the value that a switch is on
abbrev pub switched : ExprTree → Judged ExprTree
switched x = if is_int (value_of x) then Ok x else breaks (span_of x) 10

-- the type that its labels are converted to
abbrev pub label_type : ExprTree → CInt
label_type x = promoted (number_type (value_of x))

-- what stands in the parentheses of a for
pub record ForHead : Type 0 where
  pub init : StmtTrees
  pub c : Option ExprTree
  pub steps : List EffectTree

-- its condition and its steps
abbrev pub for_head : Declared → Locals → StmtTrees → Option ExprTree → List EffectTree → Judged ForHead
for_head env ls init c steps = typed_optional env ls c >>= (λ d. typed_effects env ls steps >>= (λ es. Ok (record { init = init; c = d; steps = es })))

-- ---- statements

-- a statement that declares nothing
abbrev pub staying : Locals → Judged StmtTree → Judged (After StmtTree)
staying ls r = r >>= (λ a. gives a ls)

-- the names of a block are gone after it
abbrev pub leaving : {A : Type 0} → Judged (After A) → Judged (After A)
leaving r = r >>= (λ a. gives a.tree (closed a.locals))

-- statements; one that is part of another is a block of its own (C11 6.8.4, 6.8.5)
abbrev mutual
  pub typed_stmt : Declared → Around → Locals → StmtTree → Judged (After StmtTree)
  typed_stmt env around ls (stmt s k) = typed_stmt_kind env around ls s k

  pub typed_stmt_kind : Declared → Around → Locals → Span → StmtKindTree → Judged (After StmtTree)
  typed_stmt_kind env around ls s (block ss) = leaving (typed_stmts env around (opened ls) ss >>= (λ a. gives (stmt s (block a.tree)) a.locals))
  typed_stmt_kind env around ls s empty = gives (stmt s empty) ls
  typed_stmt_kind env around ls s (effect e) = staying ls (typed_alone env ls s e)
  typed_stmt_kind env around ls s (declare n t r) = typed_variable env ls s n t r
  typed_stmt_kind env around ls s (if_alone c a) = typed_condition env ls c >>= (λ d. leaving (typed_stmt env around (opened ls) a) >>= (λ b. gives (stmt s (if_alone d b.tree)) b.locals))
  typed_stmt_kind env around ls s (if_else c a b) =
      typed_condition env ls c >>= (λ d. leaving (typed_stmt env around (opened ls) a) >>= (λ x. leaving (typed_stmt env around (opened x.locals) b) >>= (λ y. gives (stmt s (if_else d x.tree y.tree)) y.locals)))
  typed_stmt_kind env around ls s (while c a) = typed_condition env ls c >>= (λ d. leaving (typed_stmt env (in_loop around) (opened ls) a) >>= (λ b. gives (stmt s (while d b.tree)) b.locals))
  typed_stmt_kind env around ls s (do_while a c) = leaving (typed_stmt env (in_loop around) (opened ls) a) >>= (λ b. typed_condition env b.locals c >>= (λ d. gives (stmt s (do_while b.tree d)) b.locals))
  typed_stmt_kind env around ls s (for init c steps a) = leaving (typed_stmts env around (opened ls) init >>= (λ i.
      typed_optional env i.locals c >>= (λ d. typed_effects env i.locals steps >>= (λ es. leaving (typed_stmt env (in_loop around) (opened i.locals) a) >>= (λ b. gives (stmt s (for i.tree d es b.tree)) b.locals)))))
  typed_stmt_kind env around ls s (switch v gs) = typed env ls v >>= (λ a. switched a >>= (λ w.
      leaving (typed_groups env (in_switch around) (opened ls) (label_type w) s none_seen gs >>= (λ b. gives (stmt s (switch w b.tree)) b.locals))))
  typed_stmt_kind env around ls s break = staying ls (typed_jump s around.breakable break)
  typed_stmt_kind env around ls s continue = staying ls (typed_jump s around.looped continue)
  typed_stmt_kind env around ls s (return r) = staying ls (typed_return env ls s around.result r)

  pub typed_stmts : Declared → Around → Locals → StmtTrees → Judged (After StmtTrees)
  typed_stmts env around ls no_stmt = gives no_stmt ls
  typed_stmts env around ls (also_stmt s ss) = typed_stmt env around ls s >>= (λ a. typed_stmts env around a.locals ss >>= (λ b. gives (also_stmt a.tree b.tree) b.locals))

  pub typed_groups : Declared → Around → Locals → CInt → Span → Seen → GroupTrees → Judged (After GroupTrees)
  typed_groups env around ls t s seen no_group = gives no_group ls
  typed_groups env around ls t s seen (also_group labels ss gs) = typed_labels env t s seen labels >>= (λ l. typed_stmts env around ls ss >>= (λ a.
      typed_groups env around a.locals t s l.seen gs >>= (λ b. gives (also_group l.labels a.tree b.tree) b.locals)))
