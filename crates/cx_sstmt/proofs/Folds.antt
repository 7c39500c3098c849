-- What statements are without where they lie in memory.
use Rattle.std.proofs.Common.{◌≡◌, List, Option, Some, None, ap, ◌∙◌, sym, Box, Global}
use Rattle.std.specs.Prelude.{map, option_map}
use Rattle.cx_base.specs.declared.span.Span.{Span}
use Rattle.cx_ctree.specs.Exprs.{expr_tree, effect_tree}
use Rattle.cx_ctree.specs.declared.expr.Effect.{Effect}
use Rattle.cx_ctree.specs.Stmts.{StmtTree, StmtKindTree, GroupTree, kind_step, group_step, stmt_step, stmt, if_alone, if_else, for, stmt_tree, stmt_trees, group_tree}
use Rattle.cx_ctree.specs.declared.expr.Expr.{Expr}
use Rattle.cx_ctree.specs.declared.stmt.Stmt.{Stmt, roll-Stmt, out-Stmt}
use Rattle.cx_ctree.specs.declared.stmt.StmtKind as v
use Rattle.cx_ctree.specs.declared.stmt.StmtKind.TheVariants as w
use Rattle.cx_ctree.specs.declared.stmt.StmtKind.TheOpen.{StmtKind-F}
use Rattle.cx_ctree.specs.declared.stmt.StmtKind.TheFolds.{fold-roll-Stmt, fold-roll-Group, fold-roll-StmtKind, fold_out-Group, fold_out-Stmt}
use Rattle.cx_ctree.specs.declared.stmt.Group.{Group, roll-Group, out-Group}

fold_kind : (k : v.StmtKind) → StmtKindTree
fold_kind = v.fold-StmtKind StmtKindTree GroupTree StmtTree kind_step group_step stmt_step

pub of_else : (s : Span) (x : Expr) (a b : Box Stmt Global) → stmt_tree (roll-Stmt (record { span = s; kind = v.If x a (Some b) })) ≡ stmt s (if_else (expr_tree x) (stmt_tree a.value) (stmt_tree b.value))
unfolding fold_kind
of_else s x a b =
    fold-roll-Stmt StmtKindTree GroupTree StmtTree kind_step group_step stmt_step (record { span = s; kind = v.If x a (Some b) })
    ∙ ap (λ (k : v.StmtKind). stmt s (fold_kind k)) (sym (w.rolls-If x a (Some b)))
    ∙ ap (stmt s) (fold-roll-StmtKind StmtKindTree GroupTree StmtTree kind_step group_step stmt_step (StmtKind-F.If x a (Some b)))

pub of_if : (s : Span) (x : Expr) (a : Box Stmt Global) → stmt_tree (roll-Stmt (record { span = s; kind = v.If x a None })) ≡ stmt s (if_alone (expr_tree x) (stmt_tree a.value))
unfolding fold_kind
of_if s x a =
    fold-roll-Stmt StmtKindTree GroupTree StmtTree kind_step group_step stmt_step (record { span = s; kind = v.If x a None })
    ∙ ap (λ (k : v.StmtKind). stmt s (fold_kind k)) (sym (w.rolls-If x a None))
    ∙ ap (stmt s) (fold-roll-StmtKind StmtKindTree GroupTree StmtTree kind_step group_step stmt_step (StmtKind-F.If x a None))

pub of_group : (labels : List (Option Expr)) (body : List Stmt) → group_tree (roll-Group (record { labels = labels; body = body })) ≡ record { labels = map (option_map expr_tree) labels; body = stmt_trees body }
of_group labels body = fold-roll-Group StmtKindTree GroupTree StmtTree kind_step group_step stmt_step (record { labels = labels; body = body })

pub group_out : (g : Group) → group_tree g ≡ record { labels = map (option_map expr_tree) (out-Group g).labels; body = stmt_trees (out-Group g).body }
group_out g = fold_out-Group StmtKindTree GroupTree StmtTree kind_step group_step stmt_step g

pub of_for : (s : Stmt) (init : List Stmt) (x : Option Expr) (steps : List Effect) (a : Box Stmt Global) → (out-Stmt s).kind ≡ v.For init x steps a → stmt_tree s ≡ stmt (out-Stmt s).span (for (stmt_trees init) (option_map expr_tree x) (map effect_tree steps) (stmt_tree a.value))
unfolding fold_kind
of_for s init x steps a e =
    fold_out-Stmt StmtKindTree GroupTree StmtTree kind_step group_step stmt_step s
    ∙ ap (λ (k : v.StmtKind). stmt (out-Stmt s).span (fold_kind k)) (e ∙ sym (w.rolls-For init x steps a))
    ∙ ap (stmt (out-Stmt s).span) (fold-roll-StmtKind StmtKindTree GroupTree StmtTree kind_step group_step stmt_step (StmtKind-F.For init x steps a))
