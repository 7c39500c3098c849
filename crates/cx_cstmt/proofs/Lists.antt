-- Lists that grow at their ends, and heights.
use Rattle.std.proofs.Common.{◌≡◌, ℕ, ◌<◌, ◌≤◌, List, [], ◌∷◌, ◌++◌, Option, None, refl, ap, arith, false}
use Rattle.std.proofs.lemmas.Bool.Decides.{nat_tests}
use Rattle.std.specs.Prelude.{map, max, nat_le}
use Rattle.cx_base.specs.declared.span.Span.{Span}
use Rattle.cx_base.proofs.General.{map_push}
use Rattle.cx_ctree.specs.Types.{TypeTree}
use Rattle.cx_ctree.specs.Exprs.{ExprTree, RhsTree}
use Rattle.cx_ctree.specs.Stmts.{StmtTree, stmt, declare, StmtTrees, no_stmt, also_stmt, GroupTrees, no_group, also_group, stmt_tree, stmt_trees, group_tree, group_trees}
use Rattle.cx_ctree.specs.Path.{greatest, type_path, stmt_path, stmts_path, groups_path}
use Rattle.cx_ctree.specs.declared.stmt.Stmt.{Stmt}
use Rattle.cx_ctree.specs.declared.stmt.Group.{Group}
use Rattle.cx_cword.specs.declared.lexeme.Lexeme.{Lexeme}
use Rattle.cx_cname.specs.Known.{Known}
use Rattle.cx_cstmt.specs.Reading.{made, push, push_group, test_path}

pub greatest_push : {A : Type 0} (f : A → ℕ) (xs : List A) (x : A) → greatest f (xs ++ x ∷ []) ≡ max (greatest f xs) (f x)
greatest_push f [] x = omega arith
greatest_push f (y ∷ xs) x = let h = greatest_push f xs x in omega (arith, h)

pub push_stmts : (ss : List Stmt) (x : Stmt) → stmt_trees (ss ++ x ∷ []) ≡ push (stmt_trees ss) (stmt_tree x)
push_stmts [] x = refl
push_stmts (y ∷ ss) x = ap (also_stmt (stmt_tree y)) (push_stmts ss x)

pub push_path : (ss : StmtTrees) (x : StmtTree) → stmts_path (push ss x) ≡ max (stmts_path ss) (stmt_path x)
push_path no_stmt x = omega arith
push_path (also_stmt y ss) x = let h = push_path ss x in omega (arith, h)

pub push_trees : (gs : List Group) (g : Group) → group_trees (gs ++ g ∷ []) ≡ push_group (group_trees gs) (group_tree g).labels (group_tree g).body
push_trees [] g = refl
push_trees (y ∷ gs) g = ap (also_group (group_tree y).labels (group_tree y).body) (push_trees gs g)

pub push_groups_path : (gs : GroupTrees) (ls : List (Option ExprTree)) (ss : StmtTrees) → groups_path (push_group gs ls ss) ≡ max (groups_path gs) (max (greatest test_path ls) (stmts_path ss))
push_groups_path no_group ls ss = omega arith
push_groups_path (also_group ms us gs) ls ss = let h = push_groups_path gs ls ss in omega (arith, h)

-- a variable of too high a type is none
pub made_declare : (d : ℕ) (s : Span) (n : ℕ) (t : TypeTree) (r : Option RhsTree) (env : Known) (past : ℕ) (rest : List Lexeme) → 400 < type_path t → d ≤ 400 → made d (stmt s (declare n t r)) env past rest ≡ None
unfolding made
made_declare d s n t r env past rest h k = let low : nat_le (stmt_path (stmt s (declare n t r))) d ≡ false = grind (arith, nat_tests) in rw low refl
