-- How many locals the code of an expression, an effect or a statement uses, from the first that it may use on.
use Rattle.std.specs.Prelude.{ℕ, ◌+◌, ◌==◌, max, if◌then◌else◌, List, [], ◌∷◌, length, Option, Some, None}
use Rattle.cx_cmean.specs.Effects.{local_of, operand_of}
use Rattle.cx_cmean.specs.Expressions.{target}
use Rattle.cx_cmean.specs.Numbers.{value_type}
use Rattle.cx_cmean.specs.Program.{offset_in, function_of}
use Rattle.cx_ctree.specs.Exprs.{ExprTree, node, ExprKindTree, unary, binary, cond, cast, index, member, arrow, deref, address, type_of, CallTree, RhsTree, value, call, EffectTree, set, update, call_alone, value_alone}
use Rattle.cx_ctree.specs.Stmts.{StmtTree, stmt, StmtKindTree, block, effect, declare, if_alone, if_else, while, do_while, for, switch, return, StmtTrees, no_stmt, also_stmt, GroupTrees, no_group, also_group}
use Rattle.cx_ctree.specs.Types.{TypeTree, int, pointer}
use Rattle.cx_ctree.specs.declared.expr.Unary.TheVariants as u
use Rattle.cx_lcode.specs.Places.{Sort, both, either, comparing, computing, sort_of}
use Rattle.cx_sname.specs.File.{Declared}

-- a value's code, and a test's
pub record Needs : Type 0 where
  pub val : ℕ
  pub test : ℕ

-- a test by a value compares it with 0, which the next local has
abbrev pub by_value : ℕ → Needs
by_value n = record { val = n; test = max n 2 }

abbrev pub by_test : ℕ → Needs
by_test n = record { val = n; test = n }

abbrev pub two : ℕ → ℕ → ℕ
two x y = max x (y + 1)

-- an operator on values of these types: a pointer is moved by a product, whose factors are in the two locals after it
abbrev pub operation_need : TypeTree → TypeTree → (x y : ℕ) → ℕ
operation_need (pointer t) (int u) x y = max (two x y) 3
operation_need t u x y = two x y

abbrev pub of_two : Sort → TypeTree → TypeTree → Needs → Needs → Needs
of_two both t u x y = by_test (max x.test y.test)
of_two either t u x y = by_test (max x.test y.test)
of_two comparing t u x y = by_test (two x.val y.val)
of_two computing t u x y = by_value (operation_need t u x.val y.val)

-- the address so many bytes further on
abbrev pub further_need : (off : ℕ) → ℕ
further_need off = if off == 0 then 1 else 2

abbrev mutual
  pub needs : Declared → ExprTree → Needs
  needs d (node s t k) = kind_needs d k

  pub kind_needs : Declared → ExprKindTree → Needs
  kind_needs d (unary u.Not x) = by_test (needs d x).test
  kind_needs d (unary u.Neg x) = by_value ((needs d x).val + 1)
  kind_needs d (unary u.Compl x) = by_value (max (needs d x).val 2)
  kind_needs d (unary op x) = by_value (needs d x).val
  kind_needs d (binary op x y) = of_two (sort_of op) (value_type (type_of x)) (value_type (type_of y)) (needs d x) (needs d y)
  kind_needs d (cond c x y) = by_value (max (needs d c).test (max (needs d x).val (needs d y).val))
  kind_needs d (cast q x) = by_value (needs d x).val
  kind_needs d (index x y) = by_value (operation_need (value_type (type_of x)) (value_type (type_of y)) (needs d x).val (needs d y).val)
  kind_needs d (member x m) = by_value (max (place_need d x) (further_need (offset_in d (type_of x) m)))
  kind_needs d (arrow x m) = by_value (max (needs d x).val (further_need (offset_in d (target (value_type (type_of x))) m)))
  kind_needs d (deref x) = by_value (needs d x).val
  kind_needs d (address x) = by_value (place_need d x)
  kind_needs d _ = by_value 1

  -- the address of an object in memory
  pub place_need : Declared → ExprTree → ℕ
  place_need d (node s t k) = kind_place_need d k

  pub kind_place_need : Declared → ExprKindTree → ℕ
  kind_place_need d (index x y) = operation_need (value_type (type_of x)) (value_type (type_of y)) (needs d x).val (needs d y).val
  kind_place_need d (member x m) = max (place_need d x) (further_need (offset_in d (type_of x) m))
  kind_place_need d (arrow x m) = max (needs d x).val (further_need (offset_in d (target (value_type (type_of x))) m))
  kind_place_need d (deref x) = (needs d x).val
  kind_place_need d _ = 1

-- ---- effects

-- arguments, each in the next local
abbrev pub arguments_need : Declared → List ExprTree → List TypeTree → ℕ
arguments_need d [] ts = 0
arguments_need d (e ∷ es) [] = 0
arguments_need d (e ∷ es) (t ∷ ts) = max (needs d e).val (arguments_need d es ts + 1)

abbrev pub call_need : Declared → CallTree → ℕ
call_need d c = max 1 (max (arguments_need d c.args (function_of d c.name).params) (length c.args))

abbrev pub right_need : Declared → RhsTree → ℕ
right_need d (value e) = (needs d e).val
right_need d (call c q) = call_need d c

abbrev pub left_at_need : Declared → ExprTree → Option ℕ → ℕ
left_at_need d l (Some x) = 1
left_at_need d l None = place_need d l + 1

abbrev pub left_need : Declared → ExprTree → ℕ
left_need d l = left_at_need d l (local_of l)

-- a changed pointer is moved by a product
abbrev pub updated_need : TypeTree → TypeTree → ℕ
updated_need (pointer t) (int u) = 4
updated_need t u = 3

abbrev pub effect_need : Declared → EffectTree → ℕ
effect_need d (set l r s) = max (right_need d r) (left_need d l)
effect_need d (update op l e s) = max (max (needs d e).val (left_need d l)) (updated_need (type_of l) (value_type (type_of e)))
effect_need d (call_alone c) = call_need d c
effect_need d (value_alone e) = (needs d (operand_of e)).val

abbrev pub effects_need : Declared → List EffectTree → ℕ
effects_need d [] = 0
effects_need d (e ∷ es) = max (effect_need d e) (effects_need d es)

-- ---- statements

abbrev pub initial_need : Declared → Option RhsTree → ℕ
initial_need d None = 0
initial_need d (Some r) = right_need d r

abbrev pub condition_need : Declared → Option ExprTree → ℕ
condition_need d None = 0
condition_need d (Some c) = (needs d c).test

-- a label's number is in the second local
abbrev pub labels_need : List (Option ExprTree) → ℕ
labels_need [] = 0
labels_need (None ∷ ls) = labels_need ls
labels_need (Some e ∷ ls) = 2

abbrev mutual
  pub stmt_need : Declared → StmtTree → ℕ
  stmt_need d (stmt s k) = kind_stmt_need d k

  pub kind_stmt_need : Declared → StmtKindTree → ℕ
  kind_stmt_need d (block ss) = stmts_need d ss
  kind_stmt_need d (effect e) = effect_need d e
  kind_stmt_need d (declare x t r) = initial_need d r
  kind_stmt_need d (if_alone c x) = max (needs d c).test (stmt_need d x)
  kind_stmt_need d (if_else c x y) = max (needs d c).test (max (stmt_need d x) (stmt_need d y))
  kind_stmt_need d (while c x) = max (needs d c).test (stmt_need d x)
  kind_stmt_need d (do_while x c) = max (stmt_need d x) (needs d c).test
  kind_stmt_need d (for init c steps x) = max (max (stmts_need d init) (condition_need d c)) (max (stmt_need d x) (effects_need d steps))
  kind_stmt_need d (switch v gs) = max (needs d v).val (groups_need d gs)
  kind_stmt_need d (return r) = initial_need d r
  kind_stmt_need d _ = 0

  pub stmts_need : Declared → StmtTrees → ℕ
  stmts_need d no_stmt = 0
  stmts_need d (also_stmt s ss) = max (stmt_need d s) (stmts_need d ss)

  pub groups_need : Declared → GroupTrees → ℕ
  groups_need d no_group = 0
  groups_need d (also_group labels body gs) = max (max (labels_need labels) (stmts_need d body)) (groups_need d gs)
