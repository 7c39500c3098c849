-- How many blocks the code of an expression, an effect or a statement starts.
use Rattle.std.specs.Prelude.{ℕ, ◌+◌, List, [], ◌∷◌, Option, Some, None}
use Rattle.cx_cmean.specs.Effects.{local_of, operand_of}
use Rattle.cx_ctree.specs.Exprs.{ExprTree, node, ExprKindTree, unary, binary, cond, cast, index, member, arrow, deref, address, RhsTree, value, call, EffectTree, set, update, call_alone, value_alone}
use Rattle.cx_ctree.specs.Stmts.{StmtTree, stmt, StmtKindTree, block, empty, effect, declare, if_alone, if_else, while, do_while, for, switch, break, continue, return, StmtTrees, no_stmt, also_stmt, GroupTrees, no_group, also_group}
use Rattle.cx_ctree.specs.declared.expr.Unary.TheVariants as u
use Rattle.cx_lcode.specs.Places.{Sort, both, either, comparing, computing, sort_of}

-- a value's code, and a test's before it ends its last block
pub record Starts : Type 0 where
  pub val : ℕ
  pub test : ℕ

abbrev pub by_value : ℕ → Starts
by_value n = record { val = n; test = n }

-- a value by a test has three blocks more
abbrev pub by_test : ℕ → Starts
by_test n = record { val = n + 3; test = n }

abbrev pub of_two : Sort → Starts → Starts → Starts
of_two both x y = by_test (x.test + y.test + 1)
of_two either x y = by_test (x.test + y.test + 1)
of_two comparing x y = by_test (x.val + y.val)
of_two computing x y = by_value (x.val + y.val)

abbrev mutual
  pub starts : ExprTree → Starts
  starts (node s t k) = kind_starts k

  pub kind_starts : ExprKindTree → Starts
  kind_starts (unary u.Not x) = by_test (starts x).test
  kind_starts (unary op x) = by_value (starts x).val
  kind_starts (binary op x y) = of_two (sort_of op) (starts x) (starts y)
  kind_starts (cond c x y) = by_value ((starts c).test + (starts x).val + (starts y).val + 3)
  kind_starts (cast q x) = by_value (starts x).val
  kind_starts (index x y) = by_value ((starts x).val + (starts y).val)
  kind_starts (member x m) = by_value (place_starts x)
  kind_starts (arrow x m) = by_value (starts x).val
  kind_starts (deref x) = by_value (starts x).val
  kind_starts (address x) = by_value (place_starts x)
  kind_starts _ = by_value 0

  -- the address of an object in memory
  pub place_starts : ExprTree → ℕ
  place_starts (node s t k) = kind_place_starts k

  pub kind_place_starts : ExprKindTree → ℕ
  kind_place_starts (index x y) = (starts x).val + (starts y).val
  kind_place_starts (member x m) = place_starts x
  kind_place_starts (arrow x m) = (starts x).val
  kind_place_starts (deref x) = (starts x).val
  kind_place_starts _ = 0

-- ---- effects

abbrev pub all_starts : List ExprTree → ℕ
all_starts [] = 0
all_starts (e ∷ es) = (starts e).val + all_starts es

abbrev pub right_starts : RhsTree → ℕ
right_starts (value e) = (starts e).val
right_starts (call c q) = all_starts c.args

abbrev pub left_at_starts : ExprTree → Option ℕ → ℕ
left_at_starts l (Some x) = 0
left_at_starts l None = place_starts l

abbrev pub left_starts : ExprTree → ℕ
left_starts l = left_at_starts l (local_of l)

abbrev pub effect_starts : EffectTree → ℕ
effect_starts (set l r s) = right_starts r + left_starts l
effect_starts (update op l e s) = (starts e).val + left_starts l
effect_starts (call_alone c) = all_starts c.args
effect_starts (value_alone e) = (starts (operand_of e)).val

abbrev pub effects_starts : List EffectTree → ℕ
effects_starts [] = 0
effects_starts (e ∷ es) = effect_starts e + effects_starts es

-- ---- statements

abbrev pub initial_starts : Option RhsTree → ℕ
initial_starts None = 0
initial_starts (Some r) = right_starts r

abbrev pub condition_starts : Option ExprTree → ℕ
condition_starts None = 0
condition_starts (Some c) = (starts c).test

abbrev pub labels_starts : List (Option ExprTree) → ℕ
labels_starts [] = 0
labels_starts (None ∷ ls) = labels_starts ls
labels_starts (Some e ∷ ls) = labels_starts ls + 1

abbrev pub all_labels_starts : GroupTrees → ℕ
all_labels_starts no_group = 0
all_labels_starts (also_group labels body gs) = labels_starts labels + all_labels_starts gs

abbrev mutual
  pub stmt_starts : StmtTree → ℕ
  stmt_starts (stmt s k) = kind_stmt_starts k

  pub kind_stmt_starts : StmtKindTree → ℕ
  kind_stmt_starts (block ss) = stmts_starts ss
  kind_stmt_starts empty = 0
  kind_stmt_starts (effect e) = effect_starts e
  kind_stmt_starts (declare x t r) = initial_starts r
  kind_stmt_starts (if_alone c x) = (starts c).test + stmt_starts x + 2
  kind_stmt_starts (if_else c x y) = (starts c).test + stmt_starts x + stmt_starts y + 3
  kind_stmt_starts (while c x) = (starts c).test + stmt_starts x + 3
  kind_stmt_starts (do_while x c) = stmt_starts x + (starts c).test + 3
  kind_stmt_starts (for init c steps x) = stmts_starts init + condition_starts c + stmt_starts x + effects_starts steps + 4
  kind_stmt_starts (switch v gs) = (starts v).val + all_labels_starts gs + groups_starts gs + 1
  kind_stmt_starts break = 1
  kind_stmt_starts continue = 1
  kind_stmt_starts (return r) = initial_starts r + 1

  pub stmts_starts : StmtTrees → ℕ
  stmts_starts no_stmt = 0
  stmts_starts (also_stmt s ss) = stmt_starts s + stmts_starts ss

  -- each group starts a block
  pub groups_starts : GroupTrees → ℕ
  groups_starts no_group = 0
  groups_starts (also_group labels body gs) = stmts_starts body + groups_starts gs + 1
