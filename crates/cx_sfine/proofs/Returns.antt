-- Returns give a value exactly where the function has a result.
use Rattle.std.proofs.Common.{◌≡◌, true, false, List, [], Option, None, Some, is_some, refl}
use Rattle.std.specs.Prelude.{All}
use Rattle.std.proofs.lemmas.List.Elements.{All-nil, All-cons, All-append}
use Rattle.cx_ctree.specs.Decls.{TypedTree}
use Rattle.cx_ctree.specs.Exprs.{RhsTree}
use Rattle.cx_ctree.specs.Stmts.{StmtTree, stmt, block, empty, effect, declare, if_alone, if_else, while, do_while, for, switch, break, continue, return, StmtTrees, no_stmt, also_stmt, GroupTrees, no_group, also_group}
use Rattle.cx_ctree.specs.Types.{TypeTree, void, int, pointer, array, tag}
use Rattle.cx_gline.specs.Inside.{returns_in, stmts_returns, groups_returns}
use Rattle.cx_gline.specs.Law.{ReturnsAgree}
use Rattle.cx_lcode.specs.Lowered.{result_of}
use Rattle.cx_seffect.specs.Calls.{is_void}
use Rattle.cx_sema.specs.Functions.{around_body}
use Rattle.cx_sema.specs.Kept.{IsTypedReturn, IsTypedStmt, AreTypedStmts, AreTypedGroups, IsTypedFunction}
use Rattle.cx_sname.specs.File.{Declared}
use Rattle.cx_sstmt.specs.Stmts.{Around, in_loop, in_switch}

abbrev Agrees : TypeTree → Option RhsTree → Type 0
Agrees t v = is_some v ≡ is_some (result_of t)

no_result : (t : TypeTree) → is_void t ≡ true → false ≡ is_some (result_of t)
no_result void h = refl
no_result (int t) h = h
no_result (pointer t) h = h
no_result (array t n) h = h
no_result (tag k) h = h

has_result : (t : TypeTree) → is_void t ≡ false → true ≡ is_some (result_of t)
has_result void h = h
has_result (int t) h = refl
has_result (pointer t) h = refl
has_result (array t n) h = refl
has_result (tag k) h = refl

module _ (env : Declared) (ls : List TypeTree) where
  return_agrees : (t : TypeTree) (r : Option RhsTree) → IsTypedReturn env ls t r → Agrees t r
  return_agrees t None h = no_result t h
  return_agrees t (Some r) h = has_result t h.0

  mutual
    pub stmt_returns_agree : (around : Around) (s : StmtTree) → IsTypedStmt env around ls s → All (Agrees around.result) (returns_in s)
    stmt_returns_agree around (stmt s (block ss)) h = stmts_returns_agree around ss h
    stmt_returns_agree around (stmt s empty) h = All-nil (Agrees around.result)
    stmt_returns_agree around (stmt s (effect e)) h = All-nil (Agrees around.result)
    stmt_returns_agree around (stmt s (declare x t r)) h = All-nil (Agrees around.result)
    stmt_returns_agree around (stmt s (if_alone c a)) h = stmt_returns_agree around a h.1
    stmt_returns_agree around (stmt s (if_else c a b)) h = All-append (Agrees around.result) (returns_in a) (returns_in b) (stmt_returns_agree around a h.1) (stmt_returns_agree around b h.2)
    stmt_returns_agree around (stmt s (while c a)) h = stmt_returns_agree (in_loop around) a h.1
    stmt_returns_agree around (stmt s (do_while a c)) h = stmt_returns_agree (in_loop around) a h.0
    stmt_returns_agree around (stmt s (for init c steps a)) h = All-append (Agrees around.result) (stmts_returns init) (returns_in a) (stmts_returns_agree around init h.0) (stmt_returns_agree (in_loop around) a h.3)
    stmt_returns_agree around (stmt s (switch v gs)) h = groups_returns_agree (in_switch around) gs h.2
    stmt_returns_agree around (stmt s break) h = All-nil (Agrees around.result)
    stmt_returns_agree around (stmt s continue) h = All-nil (Agrees around.result)
    stmt_returns_agree around (stmt s (return r)) h = All-cons (Agrees around.result) r [] (return_agrees around.result r h) (All-nil (Agrees around.result))

    stmts_returns_agree : (around : Around) (ss : StmtTrees) → AreTypedStmts env around ls ss → All (Agrees around.result) (stmts_returns ss)
    stmts_returns_agree around no_stmt h = All-nil (Agrees around.result)
    stmts_returns_agree around (also_stmt s ss) h = All-append (Agrees around.result) (returns_in s) (stmts_returns ss) (stmt_returns_agree around s h.0) (stmts_returns_agree around ss h.1)

    groups_returns_agree : (around : Around) (gs : GroupTrees) → AreTypedGroups env around ls gs → All (Agrees around.result) (groups_returns gs)
    groups_returns_agree around no_group h = All-nil (Agrees around.result)
    groups_returns_agree around (also_group labels ss gs) h = All-append (Agrees around.result) (stmts_returns ss) (groups_returns gs) (stmts_returns_agree around ss h.1) (groups_returns_agree around gs h.2)

pub returns_agree : (env : Declared) (f : TypedTree) → IsTypedFunction env f → ReturnsAgree f
returns_agree env f h = stmt_returns_agree env f.locals (around_body f.sig) f.body h.body
