-- The number of the block that is open after the code of an expression, an effect or a statement, where it began in a block of
-- this number. Blocks are numbered as they are started.
use Rattle.std.specs.Prelude.{ℕ, ◌+◌, List, [], ◌∷◌, Option, Some, None}
use Rattle.cx_cmean.specs.Effects.{local_of, operand_of}
use Rattle.cx_ctree.specs.Exprs.{ExprTree, node, ExprKindTree, unary, binary, cond, cast, index, member, arrow, deref, address, RhsTree, value, call, EffectTree, set, update, call_alone, value_alone}
use Rattle.cx_ctree.specs.Stmts.{StmtTree, stmt, StmtKindTree, block, empty, effect, declare, if_alone, if_else, while, do_while, for, switch, break, continue, return, StmtTrees, no_stmt, also_stmt, GroupTrees, no_group, also_group}
use Rattle.cx_ctree.specs.declared.expr.Binary.{Binary}
use Rattle.cx_ctree.specs.declared.expr.Binary.TheVariants as b
use Rattle.cx_ctree.specs.declared.expr.Unary.TheVariants as u

-- after the value, and before the test ends its last block
pub record Last : Type 0 where
  pub val : ℕ → ℕ
  pub test : ℕ → ℕ

abbrev pub last_by_value : (ℕ → ℕ) → Last
last_by_value f = record { val = f; test = f }

-- a value by a test has three blocks more: where it is 1, where it is 0, and what follows
abbrev pub last_by_test : (ℕ → ℕ) → Last
last_by_test f = record { val = λ b. f b + 1 + 1 + 1; test = f }

-- an operator by its kind: &&, ||, a comparison, or another
pub data Sort : Type 0 where
  both : Sort
  either : Sort
  comparing : Sort
  computing : Sort

abbrev pub sort_of : Binary → Sort
sort_of b.And = both
sort_of b.Or = either
sort_of b.Lt = comparing
sort_of b.Gt = comparing
sort_of b.Le = comparing
sort_of b.Ge = comparing
sort_of b.Eq = comparing
sort_of b.Ne = comparing
sort_of _ = computing

abbrev pub last_of_two : Sort → Last → Last → Last
last_of_two both x y = last_by_test (λ b. y.test (x.test b + 1))
last_of_two either x y = last_by_test (λ b. y.test (x.test b + 1))
last_of_two comparing x y = last_by_test (λ b. y.val (x.val b))
last_of_two computing x y = last_by_value (λ b. y.val (x.val b))

abbrev mutual
  pub last : ExprTree → Last
  last (node s t k) = kind_last k

  pub kind_last : ExprKindTree → Last
  kind_last (unary u.Not x) = last_by_test (last x).test
  kind_last (unary op x) = last_by_value (last x).val
  kind_last (binary op x y) = last_of_two (sort_of op) (last x) (last y)
  kind_last (cond c x y) = last_by_value (λ b. (last y).val ((last x).val ((last c).test b + 1) + 1) + 1)
  kind_last (cast q x) = last_by_value (last x).val
  kind_last (index x y) = last_by_value (λ b. (last y).val ((last x).val b))
  kind_last (member x m) = last_by_value (last_place x)
  kind_last (arrow x m) = last_by_value (last x).val
  kind_last (deref x) = last_by_value (last x).val
  kind_last (address x) = last_by_value (last_place x)
  kind_last _ = last_by_value (λ b. b)

  -- after the address of an object in memory
  pub last_place : ExprTree → ℕ → ℕ
  last_place (node s t k) = kind_last_place k

  pub kind_last_place : ExprKindTree → ℕ → ℕ
  kind_last_place (index x y) b = (last y).val ((last x).val b)
  kind_last_place (member x m) b = last_place x b
  kind_last_place (arrow x m) b = (last x).val b
  kind_last_place (deref x) b = (last x).val b
  kind_last_place _ b = b

-- ---- effects

abbrev pub last_all : List ExprTree → ℕ → ℕ
last_all [] b = b
last_all (e ∷ es) b = last_all es ((last e).val b)

abbrev pub right_last : RhsTree → ℕ → ℕ
right_last (value e) b = (last e).val b
right_last (call c q) b = last_all c.args b

abbrev pub left_at_last : ExprTree → Option ℕ → ℕ → ℕ
left_at_last l (Some x) b = b
left_at_last l None b = last_place l b

abbrev pub left_last : ExprTree → ℕ → ℕ
left_last l b = left_at_last l (local_of l) b

abbrev pub effect_last : EffectTree → ℕ → ℕ
effect_last (set l r s) b = left_last l (right_last r b)
effect_last (update op l e s) b = left_last l ((last e).val b)
effect_last (call_alone c) b = last_all c.args b
effect_last (value_alone e) b = (last (operand_of e)).val b

abbrev pub effects_last : List EffectTree → ℕ → ℕ
effects_last [] b = b
effects_last (e ∷ es) b = effects_last es (effect_last e b)

-- ---- statements

abbrev pub initial_last : Option RhsTree → ℕ → ℕ
initial_last None b = b
initial_last (Some r) b = right_last r b

-- the test of a for, before it ends its block
abbrev pub condition_last : Option ExprTree → ℕ → ℕ
condition_last None b = b
condition_last (Some c) b = (last c).test b

-- each label with a value has a block that it goes on to where it does not match
abbrev pub labels_last : List (Option ExprTree) → ℕ → ℕ
labels_last [] b = b
labels_last (None ∷ ls) b = labels_last ls b
labels_last (Some e ∷ ls) b = labels_last ls (b + 1)

abbrev pub all_labels_last : GroupTrees → ℕ → ℕ
all_labels_last no_group b = b
all_labels_last (also_group labels body gs) b = all_labels_last gs (labels_last labels b)

abbrev mutual
  pub stmt_last : StmtTree → ℕ → ℕ
  stmt_last (stmt s k) = kind_stmt_last k

  pub kind_stmt_last : StmtKindTree → ℕ → ℕ
  kind_stmt_last (block ss) b = stmts_last ss b
  kind_stmt_last empty b = b
  kind_stmt_last (effect e) b = effect_last e b
  kind_stmt_last (declare x t r) b = initial_last r b
  kind_stmt_last (if_alone c x) b = stmt_last x ((last c).test b + 1) + 1
  kind_stmt_last (if_else c x y) b = stmt_last y (stmt_last x ((last c).test b + 1) + 1) + 1
  kind_stmt_last (while c x) b = stmt_last x ((last c).test (b + 1) + 1) + 1
  kind_stmt_last (do_while x c) b = (last c).test (stmt_last x (b + 1) + 1) + 1
  kind_stmt_last (for init c steps x) b = effects_last steps (stmt_last x (condition_last c (stmts_last init b + 1) + 1) + 1) + 1
  kind_stmt_last (switch v gs) b = groups_last gs (all_labels_last gs ((last v).val b)) + 1
  kind_stmt_last break b = b + 1
  kind_stmt_last continue b = b + 1
  kind_stmt_last (return r) b = initial_last r b + 1

  pub stmts_last : StmtTrees → ℕ → ℕ
  stmts_last no_stmt b = b
  stmts_last (also_stmt s ss) b = stmts_last ss (stmt_last s b)

  -- each group starts a block
  pub groups_last : GroupTrees → ℕ → ℕ
  groups_last no_group b = b
  groups_last (also_group labels body gs) b = groups_last gs (stmts_last body (b + 1))
