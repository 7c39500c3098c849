-- What stands in the statements of a function: the numbers, and what its returns give.
use Rattle.std.specs.Prelude.{ℤ, List, [], ◌∷◌, ◌++◌, Option, Some, None}
use Rattle.cx_ctree.specs.Exprs.{ExprTree, node, ExprKindTree, num, unary, binary, cond, cast, index, member, arrow, deref, address, RhsTree, value, call, EffectTree, set, update, call_alone, value_alone}
use Rattle.cx_ctree.specs.Stmts.{StmtTree, stmt, StmtKindTree, block, effect, declare, if_alone, if_else, while, do_while, for, switch, return, StmtTrees, no_stmt, also_stmt, GroupTrees, no_group, also_group}

-- ---- numbers

abbrev mutual
  pub numbers_in : ExprTree → List ℤ
  numbers_in (node s t k) = kind_numbers k

  pub kind_numbers : ExprKindTree → List ℤ
  kind_numbers (num v t) = v ∷ []
  kind_numbers (unary op x) = numbers_in x
  kind_numbers (binary op x y) = numbers_in x ++ numbers_in y
  kind_numbers (cond c x y) = numbers_in c ++ (numbers_in x ++ numbers_in y)
  kind_numbers (cast q x) = numbers_in x
  kind_numbers (index x y) = numbers_in x ++ numbers_in y
  kind_numbers (member x m) = numbers_in x
  kind_numbers (arrow x m) = numbers_in x
  kind_numbers (deref x) = numbers_in x
  kind_numbers (address x) = numbers_in x
  kind_numbers _ = []

abbrev pub all_numbers : List ExprTree → List ℤ
all_numbers [] = []
all_numbers (e ∷ es) = numbers_in e ++ all_numbers es

abbrev pub right_numbers : RhsTree → List ℤ
right_numbers (value e) = numbers_in e
right_numbers (call c q) = all_numbers c.args

abbrev pub effect_numbers : EffectTree → List ℤ
effect_numbers (set l r s) = right_numbers r ++ numbers_in l
effect_numbers (update op l e s) = numbers_in e ++ numbers_in l
effect_numbers (call_alone c) = all_numbers c.args
effect_numbers (value_alone e) = numbers_in e

abbrev pub effects_numbers : List EffectTree → List ℤ
effects_numbers [] = []
effects_numbers (e ∷ es) = effect_numbers e ++ effects_numbers es

abbrev pub initial_numbers : Option RhsTree → List ℤ
initial_numbers None = []
initial_numbers (Some r) = right_numbers r

abbrev pub optional_numbers : Option ExprTree → List ℤ
optional_numbers None = []
optional_numbers (Some e) = numbers_in e

abbrev pub labels_numbers : List (Option ExprTree) → List ℤ
labels_numbers [] = []
labels_numbers (l ∷ ls) = optional_numbers l ++ labels_numbers ls

abbrev mutual
  pub stmt_numbers : StmtTree → List ℤ
  stmt_numbers (stmt s k) = kind_stmt_numbers k

  pub kind_stmt_numbers : StmtKindTree → List ℤ
  kind_stmt_numbers (block ss) = stmts_numbers ss
  kind_stmt_numbers (effect e) = effect_numbers e
  kind_stmt_numbers (declare x t r) = initial_numbers r
  kind_stmt_numbers (if_alone c x) = numbers_in c ++ stmt_numbers x
  kind_stmt_numbers (if_else c x y) = numbers_in c ++ (stmt_numbers x ++ stmt_numbers y)
  kind_stmt_numbers (while c x) = numbers_in c ++ stmt_numbers x
  kind_stmt_numbers (do_while x c) = stmt_numbers x ++ numbers_in c
  kind_stmt_numbers (for init c steps x) = stmts_numbers init ++ (optional_numbers c ++ (effects_numbers steps ++ stmt_numbers x))
  kind_stmt_numbers (switch v gs) = numbers_in v ++ groups_numbers gs
  kind_stmt_numbers (return r) = initial_numbers r
  kind_stmt_numbers _ = []

  pub stmts_numbers : StmtTrees → List ℤ
  stmts_numbers no_stmt = []
  stmts_numbers (also_stmt s ss) = stmt_numbers s ++ stmts_numbers ss

  pub groups_numbers : GroupTrees → List ℤ
  groups_numbers no_group = []
  groups_numbers (also_group labels body gs) = labels_numbers labels ++ (stmts_numbers body ++ groups_numbers gs)

-- ---- returns

-- what the returns give, in order
abbrev mutual
  pub returns_in : StmtTree → List (Option RhsTree)
  returns_in (stmt s k) = kind_returns k

  pub kind_returns : StmtKindTree → List (Option RhsTree)
  kind_returns (block ss) = stmts_returns ss
  kind_returns (if_alone c x) = returns_in x
  kind_returns (if_else c x y) = returns_in x ++ returns_in y
  kind_returns (while c x) = returns_in x
  kind_returns (do_while x c) = returns_in x
  kind_returns (for init c steps x) = stmts_returns init ++ returns_in x
  kind_returns (switch v gs) = groups_returns gs
  kind_returns (return r) = r ∷ []
  kind_returns _ = []

  pub stmts_returns : StmtTrees → List (Option RhsTree)
  stmts_returns no_stmt = []
  stmts_returns (also_stmt s ss) = returns_in s ++ stmts_returns ss

  pub groups_returns : GroupTrees → List (Option RhsTree)
  groups_returns no_group = []
  groups_returns (also_group labels body gs) = stmts_returns body ++ groups_returns gs
