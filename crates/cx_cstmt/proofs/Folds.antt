-- What statements are without where they lie in memory.
use Rattle.std.proofs.Common.{◌≡◌, List, [], ◌∷◌, ◌++◌, Option, Some, None, ap, ◌∙◌, sym, Box, Global}
use Rattle.std.specs.Prelude.{map, option_map}
use Rattle.cx_base.specs.declared.span.Span.{Span}
use Rattle.cx_ctree.specs.Exprs.{expr_tree}
use Rattle.cx_ctree.specs.Stmts.{StmtTree, StmtKindTree, GroupTree, kind_step, group_step, stmt_step, stmt, if_alone, if_else, stmt_tree, stmt_trees, group_trees}
use Rattle.cx_ctree.specs.declared.expr.Expr.{Expr}
use Rattle.cx_ctree.specs.declared.stmt.Stmt.{Stmt, roll-Stmt}
use Rattle.cx_ctree.specs.declared.stmt.StmtKind as v
use Rattle.cx_ctree.specs.declared.stmt.StmtKind.TheVariants as w
use Rattle.cx_ctree.specs.declared.stmt.StmtKind.TheOpen.{StmtKind-F}
use Rattle.cx_ctree.specs.declared.stmt.StmtKind.TheFolds.{fold-roll-Stmt, fold-roll-Group, fold-roll-StmtKind}
use Rattle.cx_ctree.specs.declared.stmt.Group.{Group, roll-Group}
use Rattle.cx_cstmt.specs.Reading.{push_group}
use Rattle.cx_cstmt.proofs.Lists.{push_trees}

fold_kind : (k : v.StmtKind) → StmtKindTree
fold_kind = v.fold-StmtKind StmtKindTree GroupTree StmtTree kind_step group_step stmt_step

pub of_else : (s : Span) (x : Expr) (a b : Box Stmt Global) → stmt_tree (roll-Stmt (record { span = s; kind = v.If x a (Some b) })) ≡ stmt s (if_else (expr_tree x) (stmt_tree a.value) (stmt_tree b.value))
unfolding fold_kind
of_else s x a b =
    fold-roll-Stmt StmtKindTree GroupTree StmtTree kind_step group_step stmt_step (record { span = s; kind = v.If x a (Some b) })
    ∙ ap (λ (k : v.StmtKind). stmt s (fold_kind k)) (sym (w.rolls-If x a (Some b)))
    ∙ ap (stmt s) (fold-roll-StmtKind StmtKindTree GroupTree StmtTree kind_step group_step stmt_step (StmtKind-F.If x a (Some b)))

pub of_if : (s : Span) (x : Expr) (a : Box Stmt Global) → stmt_tree (roll-Stmt (record { span = s; kind = v.If x a None })) ≡ stmt s (if_alone (expr_tree x) (stmt_tree a.value))
unfolding fold_kind
of_if s x a =
    fold-roll-Stmt StmtKindTree GroupTree StmtTree kind_step group_step stmt_step (record { span = s; kind = v.If x a None })
    ∙ ap (λ (k : v.StmtKind). stmt s (fold_kind k)) (sym (w.rolls-If x a None))
    ∙ ap (stmt s) (fold-roll-StmtKind StmtKindTree GroupTree StmtTree kind_step group_step stmt_step (StmtKind-F.If x a None))

pub push_groups : (gs : List Group) (labels : List (Option Expr)) (body : List Stmt)
    → group_trees (gs ++ roll-Group (record { labels = labels; body = body }) ∷ []) ≡ push_group (group_trees gs) (map (option_map expr_tree) labels) (stmt_trees body)
push_groups gs labels body =
    push_trees gs (roll-Group (record { labels = labels; body = body }))
    ∙ ap (λ (g : GroupTree). push_group (group_trees gs) g.labels g.body) (fold-roll-Group StmtKindTree GroupTree StmtTree kind_step group_step stmt_step (record { labels = labels; body = body }))
