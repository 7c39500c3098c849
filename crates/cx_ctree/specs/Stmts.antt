-- Statements as plain data.
use Rattle.std.specs.Prelude.{ℕ, List, [], ◌∷◌, map, option_map, Option, Some, None, Box}
use Rattle.std.specs.declared.alloc.Global.{Global}
use Rattle.cx_base.specs.declared.span.Span.{Span}
use Rattle.cx_ctree.specs.Types.{TypeTree, type_tree}
use Rattle.cx_ctree.specs.Exprs.{ExprTree, expr_tree, RhsTree, rhs_tree, EffectTree, effect_tree}
use Rattle.cx_ctree.specs.declared.stmt.Stmt.{Stmt, fold-Stmt}
use Rattle.cx_ctree.specs.declared.stmt.Group.{Group, fold-Group}
use Rattle.cx_ctree.specs.declared.stmt.StmtKind.TheOpen.{StmtKind-F, Group-F, Stmt-F}

mutual
  pub data StmtTree : Type 0 where
    stmt : Span → StmtKindTree → StmtTree

  pub data StmtKindTree : Type 0 where
    block : StmtTrees → StmtKindTree
    empty : StmtKindTree
    effect : EffectTree → StmtKindTree
    declare : ℕ → TypeTree → Option RhsTree → StmtKindTree
    if_alone : ExprTree → StmtTree → StmtKindTree
    if_else : ExprTree → StmtTree → StmtTree → StmtKindTree
    while : ExprTree → StmtTree → StmtKindTree
    do_while : StmtTree → ExprTree → StmtKindTree
    for : (init : StmtTrees) → Option ExprTree → (steps : List EffectTree) → StmtTree → StmtKindTree
    switch : ExprTree → GroupTrees → StmtKindTree
    break : StmtKindTree
    continue : StmtKindTree
    return : Option RhsTree → StmtKindTree

  -- statements in order
  pub data StmtTrees : Type 0 where
    no_stmt : StmtTrees
    also_stmt : StmtTree → StmtTrees → StmtTrees

  -- the groups of a switch in order, each with its labels
  pub data GroupTrees : Type 0 where
    no_group : GroupTrees
    also_group : List (Option ExprTree) → StmtTrees → GroupTrees → GroupTrees

abbrev pub stmt_span : StmtTree → Span
stmt_span (stmt s k) = s

abbrev pub stmt_kind : StmtTree → StmtKindTree
stmt_kind (stmt s k) = k

-- a group, before it is set in its switch
pub record GroupTree : Type 0 where
  pub labels : List (Option ExprTree)
  pub body : StmtTrees

abbrev pub in_order : List StmtTree → StmtTrees
in_order [] = no_stmt
in_order (s ∷ ss) = also_stmt s (in_order ss)

abbrev pub groups_in_order : List GroupTree → GroupTrees
groups_in_order [] = no_group
groups_in_order (g ∷ gs) = also_group g.labels g.body (groups_in_order gs)

abbrev pub if_tree : ExprTree → StmtTree → Option (Box StmtTree Global) → StmtKindTree
if_tree c a None = if_alone c a
if_tree c a (Some b) = if_else c a b.value

abbrev pub kind_step : StmtKind-F StmtKindTree GroupTree StmtTree → StmtKindTree
kind_step (StmtKind-F.Block ss) = block (in_order ss)
kind_step StmtKind-F.Empty = empty
kind_step (StmtKind-F.Effect e) = effect (effect_tree e)
kind_step (StmtKind-F.Declare x t r) = declare x (type_tree t) (option_map rhs_tree r)
kind_step (StmtKind-F.If c a b) = if_tree (expr_tree c) a.value b
kind_step (StmtKind-F.While c a) = while (expr_tree c) a.value
kind_step (StmtKind-F.DoWhile a c) = do_while a.value (expr_tree c)
kind_step (StmtKind-F.For init c steps a) = for (in_order init) (option_map expr_tree c) (map effect_tree steps) a.value
kind_step (StmtKind-F.Switch v gs) = switch (expr_tree v) (groups_in_order gs)
kind_step StmtKind-F.Break = break
kind_step StmtKind-F.Continue = continue
kind_step (StmtKind-F.Return r) = return (option_map rhs_tree r)

abbrev pub group_step : Group-F StmtKindTree GroupTree StmtTree → GroupTree
group_step g = record { labels = map (option_map expr_tree) g.labels; body = in_order g.body }

abbrev pub stmt_step : Stmt-F StmtKindTree GroupTree StmtTree → StmtTree
stmt_step s = stmt s.span s.kind

-- the statement
abbrev pub stmt_tree : Stmt → StmtTree
stmt_tree = fold-Stmt StmtKindTree GroupTree StmtTree kind_step group_step stmt_step

abbrev pub group_tree : Group → GroupTree
group_tree = fold-Group StmtKindTree GroupTree StmtTree kind_step group_step stmt_step

abbrev pub stmt_trees : List Stmt → StmtTrees
stmt_trees ss = in_order (map stmt_tree ss)

abbrev pub group_trees : List Group → GroupTrees
group_trees gs = groups_in_order (map group_tree gs)
