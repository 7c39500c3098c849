-- How many nodes the longest path down a tree has. Nodes are expressions, statements and types of C.
use Rattle.std.specs.Prelude.{ℕ, ◌+◌, max, List, [], ◌∷◌}
use Rattle.std.specs.Option.{option_map_or}
use Rattle.cx_ctree.specs.Types.{TypeTree, void, int, pointer, array, tag}
use Rattle.cx_ctree.specs.Exprs.{ExprTree, node, ExprKindTree, num, name, local, global, unary, binary, cond, cast, size_of, size_of_expr, index, member, arrow, deref, address, CallTree, RhsTree, value, call, EffectTree, set, update, call_alone, value_alone}
use Rattle.cx_ctree.specs.Stmts.{StmtTree, stmt, StmtKindTree, block, empty, effect, declare, if_alone, if_else, while, do_while, for, switch, break, continue, return, StmtTrees, no_stmt, also_stmt, GroupTrees, no_group, also_group}

abbrev pub greatest : {A : Type 0} → (A → ℕ) → List A → ℕ
greatest f [] = 0
greatest f (x ∷ xs) = max (f x) (greatest f xs)

abbrev pub type_path : TypeTree → ℕ
type_path void = 1
type_path (int t) = 1
type_path (pointer t) = 1 + type_path t
type_path (array t n) = 1 + type_path t
type_path (tag k) = 1

abbrev mutual
  -- the type that an expression is given once it is known is no part of a path
  pub expr_path : ExprTree → ℕ
  expr_path (node s t k) = 1 + kind_path k

  pub kind_path : ExprKindTree → ℕ
  kind_path (num v t) = 0
  kind_path (name n) = 0
  kind_path (local x) = 0
  kind_path (global n) = 0
  kind_path (unary op a) = expr_path a
  kind_path (binary op a b) = max (expr_path a) (expr_path b)
  kind_path (cond a b c) = max (expr_path a) (max (expr_path b) (expr_path c))
  kind_path (cast t a) = max (type_path t) (expr_path a)
  kind_path (size_of t) = type_path t
  kind_path (size_of_expr a) = expr_path a
  kind_path (index a b) = max (expr_path a) (expr_path b)
  kind_path (member a m) = expr_path a
  kind_path (arrow a m) = expr_path a
  kind_path (deref a) = expr_path a
  kind_path (address a) = expr_path a

abbrev pub call_path : CallTree → ℕ
call_path c = greatest expr_path c.args

abbrev pub rhs_path : RhsTree → ℕ
rhs_path (value v) = expr_path v
rhs_path (call c t) = max (call_path c) (option_map_or type_path t 0)

abbrev pub effect_path : EffectTree → ℕ
effect_path (set l r s) = max (expr_path l) (rhs_path r)
effect_path (update op l v s) = max (expr_path l) (expr_path v)
effect_path (call_alone c) = call_path c
effect_path (value_alone v) = expr_path v

abbrev mutual
  pub stmt_path : StmtTree → ℕ
  stmt_path (stmt s k) = 1 + stmt_kind_path k

  pub stmt_kind_path : StmtKindTree → ℕ
  stmt_kind_path (block ss) = stmts_path ss
  stmt_kind_path empty = 0
  stmt_kind_path (effect e) = effect_path e
  stmt_kind_path (declare x t r) = max (type_path t) (option_map_or rhs_path r 0)
  stmt_kind_path (if_alone c a) = max (expr_path c) (stmt_path a)
  stmt_kind_path (if_else c a b) = max (expr_path c) (max (stmt_path a) (stmt_path b))
  stmt_kind_path (while c a) = max (expr_path c) (stmt_path a)
  stmt_kind_path (do_while a c) = max (stmt_path a) (expr_path c)
  stmt_kind_path (for init c steps a) = max (stmts_path init) (max (option_map_or expr_path c 0) (max (greatest effect_path steps) (stmt_path a)))
  stmt_kind_path (switch v gs) = max (expr_path v) (groups_path gs)
  stmt_kind_path break = 0
  stmt_kind_path continue = 0
  stmt_kind_path (return r) = option_map_or rhs_path r 0

  pub stmts_path : StmtTrees → ℕ
  stmts_path no_stmt = 0
  stmts_path (also_stmt s ss) = max (stmt_path s) (stmts_path ss)

  pub groups_path : GroupTrees → ℕ
  groups_path no_group = 0
  groups_path (also_group ls ss gs) = max (greatest (λ l. option_map_or expr_path l 0) ls) (max (stmts_path ss) (groups_path gs))
