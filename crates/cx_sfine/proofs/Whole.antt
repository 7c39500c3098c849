-- Statements and functions that keep the rules on types are fine.
use Rattle.std.proofs.Common.{◌≡◌, ◌≤◌, true, List, ◌++◌, map, length, Option, None, Some, ap, arith, length-append}
use Rattle.std.specs.List.{list_all}
use Rattle.cx_ctree.specs.Types.{TypeTree}
use Rattle.cx_ctree.specs.Exprs.{ExprTree, RhsTree}
use Rattle.cx_ctree.specs.Stmts.{StmtTree, stmt, block, empty, effect, declare, if_alone, if_else, while, do_while, for, switch, break, continue, return, StmtTrees, no_stmt, also_stmt, GroupTrees, no_group, also_group}
use Rattle.cx_ctree.specs.Decls.{ParamTree, TypedTree}
use Rattle.cx_ctype.specs.Operations.{is_scalar}
use Rattle.cx_sname.specs.File.{Declared}
use Rattle.cx_seffect.proofs.Lists.{count_once}
use Rattle.cx_sstmt.specs.Stmts.{Around, in_loop, in_switch}
use Rattle.cx_sema.specs.Functions.{around_body}
use Rattle.cx_sema.specs.Kept.{IsTypedOptional, IsTypedInitial, IsTypedReturn, IsTypedStmt, AreTypedStmts, AreTypedGroups, IsTypedFunction}
use Rattle.cx_lright.specs.Fine.{InitialFine, ConditionFine, StmtFine, StmtsFine, GroupsFine, FunctionFine}
use Rattle.cx_sfine.proofs.Parts.{exists_at, expr_fine, right_fine, effect_fine, effects_fine}

module _ (env : Declared) (ls : List TypeTree) (scalar : list_all is_scalar ls ≡ true) where
  initial_fine : (t : TypeTree) (r : Option RhsTree) → IsTypedInitial env ls t r → InitialFine env (length ls) r
  initial_fine t None h = tt
  initial_fine t (Some r) h = right_fine env ls scalar t r h

  return_fine : (t : TypeTree) (r : Option RhsTree) → IsTypedReturn env ls t r → InitialFine env (length ls) r
  return_fine t None h = tt
  return_fine t (Some r) h = right_fine env ls scalar t r h.1

  condition_fine : (x : Option ExprTree) → IsTypedOptional env ls x → ConditionFine (length ls) x
  condition_fine None h = tt
  condition_fine (Some x) h = expr_fine env ls scalar x h.0

  mutual
    pub stmt_fine : (around : Around) (s : StmtTree) → IsTypedStmt env around ls s → StmtFine env (length ls) around.looped around.breakable s
    stmt_fine around (stmt s (block ss)) h = stmts_fine around ss h
    stmt_fine around (stmt s empty) h = tt
    stmt_fine around (stmt s (effect e)) h = effect_fine env ls scalar e h
    stmt_fine around (stmt s (declare x t r)) h = (exists_at ls x t h.0, initial_fine t r h.1)
    stmt_fine around (stmt s (if_alone c a)) h = (expr_fine env ls scalar c h.0.0, stmt_fine around a h.1)
    stmt_fine around (stmt s (if_else c a b)) h = (expr_fine env ls scalar c h.0.0, stmt_fine around a h.1, stmt_fine around b h.2)
    stmt_fine around (stmt s (while c a)) h = (expr_fine env ls scalar c h.0.0, stmt_fine (in_loop around) a h.1)
    stmt_fine around (stmt s (do_while a c)) h = (stmt_fine (in_loop around) a h.0, expr_fine env ls scalar c h.1.0)
    stmt_fine around (stmt s (for init c steps a)) h = (stmts_fine around init h.0, condition_fine c h.1, effects_fine env ls scalar steps h.2, stmt_fine (in_loop around) a h.3)
    stmt_fine around (stmt s (switch v gs)) h = (expr_fine env ls scalar v h.0, groups_fine (in_switch around) gs h.2)
    stmt_fine around (stmt s break) h = h
    stmt_fine around (stmt s continue) h = h
    stmt_fine around (stmt s (return r)) h = return_fine around.result r h

    stmts_fine : (around : Around) (ss : StmtTrees) → AreTypedStmts env around ls ss → StmtsFine env (length ls) around.looped around.breakable ss
    stmts_fine around no_stmt h = tt
    stmts_fine around (also_stmt s ss) h = (stmt_fine around s h.0, stmts_fine around ss h.1)

    groups_fine : (around : Around) (gs : GroupTrees) → AreTypedGroups env around ls gs → GroupsFine env (length ls) around.looped around.breakable gs
    groups_fine around no_group h = tt
    groups_fine around (also_group labels ss gs) h = (stmts_fine around ss h.1, groups_fine around gs h.2)

few_params : (ps : List ParamTree) (ts others : List TypeTree) → ts ≡ map (λ p. p.ctype) ps ++ others → length ps ≤ length ts
few_params ps ts others e =
    let n : length ts ≡ length (map (λ p. p.ctype) ps ++ others) = ap length e in
    let m = length-append (map (λ p. p.ctype) ps) others in
    let k = count_once (λ (p : ParamTree). p.ctype) ps in
    omega (arith, n, m, k)

pub function_fine : (env : Declared) (f : TypedTree) → IsTypedFunction env f → FunctionFine env f
function_fine env f h = (few_params f.sig.params f.locals h.others h.params, stmt_fine env f.locals h.scalar (around_body f.sig) f.body h.body)
