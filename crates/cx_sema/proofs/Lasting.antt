-- What holds with some locals holds with more of them.
use Rattle.std.proofs.Common.{◌≡◌, ℕ, zero, suc, Bool, true, false, List, [], ◌∷◌, ◌++◌, Option, None, Some, inl, inr}
use Rattle.std.specs.Prelude.{slice_get}
use Rattle.cx_ctree.specs.Types.{TypeTree}
use Rattle.cx_ctree.specs.Exprs.{ExprTree, node, type_of, ExprKindTree, num, name, local, global, unary, binary, cond, cast, size_of, size_of_expr, index, member, arrow, deref, address, CallTree, RhsTree, value, call, EffectTree, set, update, call_alone, value_alone}
use Rattle.cx_ctree.specs.Stmts.{StmtTree, stmt, StmtKindTree, block, empty, effect, declare, if_alone, if_else, while, do_while, for, switch, break, continue, return, StmtTrees, no_stmt, also_stmt, GroupTrees, no_group, also_group}
use Rattle.cx_sname.specs.File.{Declared}
use Rattle.cx_sexpr.specs.Kept.{IsTyped, IsTypedAs}
use Rattle.cx_sstmt.specs.Stmts.{Around, in_loop, in_switch}
use Rattle.cx_sema.specs.Kept.{AreTyped, IsTypedCall, IsTypedRhs, IsTypedAlone, IsTypedEffect, AreTypedEffects, IsTypedCondition, IsTypedOptional, IsTypedInitial, IsTypedReturn, IsTypedStmt, IsTypedKind, AreTypedStmts, AreTypedGroups}

pub slice_more : {A : Type 0} (xs more : List A) (i : ℕ) (x : A) → slice_get xs i ≡ Some x → slice_get (xs ++ more) i ≡ Some x
slice_more [] more i x h = absurd cc
slice_more (y ∷ ys) more zero x h = h
slice_more (y ∷ ys) more (suc i) x h = slice_more ys more i x h

module _ (env : Declared) (ls more : List TypeTree) where
  mutual
    pub expr_lasts : (x : ExprTree) → IsTyped env ls x → IsTyped env (ls ++ more) x
    expr_lasts (node s t k) h = kind_lasts t k h

    kind_lasts : (t : TypeTree) (k : ExprKindTree) → IsTypedAs env ls t k → IsTypedAs env (ls ++ more) t k
    kind_lasts t (num v w) h = h
    kind_lasts t (name n) h = h
    kind_lasts t (local x) h = slice_more ls more x t h
    kind_lasts t (global n) h = h
    kind_lasts t (unary op x) h = (expr_lasts x h.0, h.1)
    kind_lasts t (binary op x y) h = (expr_lasts x h.0, expr_lasts y h.1, h.2)
    kind_lasts t (cond c x y) h = (expr_lasts c h.0, expr_lasts x h.1, expr_lasts y h.2, h.3, h.4)
    kind_lasts t (cast w x) h = (expr_lasts x h.0, h.1)
    kind_lasts t (size_of w) h = h
    kind_lasts t (size_of_expr x) h = (expr_lasts x h.0, h.1)
    kind_lasts t (index x y) h = (expr_lasts x h.0, expr_lasts y h.1, h.2)
    kind_lasts t (member x m) h = (expr_lasts x h.0, h.1)
    kind_lasts t (arrow x m) h = (expr_lasts x h.0, h.1, h.2, h.3)
    kind_lasts t (deref x) h = (expr_lasts x h.0, h.1)
    kind_lasts t (address x) h = (expr_lasts x h.0, h.1, h.2)

  exprs_last : (xs : List ExprTree) → AreTyped env ls xs → AreTyped env (ls ++ more) xs
  exprs_last [] h = tt
  exprs_last (x ∷ xs) h = (expr_lasts x h.0, exprs_last xs h.1)

  call_lasts : (taken : Bool) (c : CallTree) (r : TypeTree) → IsTypedCall env ls taken c r → IsTypedCall env (ls ++ more) taken c r
  call_lasts taken c r h = (exprs_last c.args h.0, h.1, h.2, h.3, h.4)

  pub rhs_lasts : (t : TypeTree) (r : RhsTree) → IsTypedRhs env ls t r → IsTypedRhs env (ls ++ more) t r
  rhs_lasts t (value x) h = (expr_lasts x h.0, h.1)
  rhs_lasts t (call c None) h = (h.0, call_lasts true c h.0 h.1, h.2)
  rhs_lasts t (call c (Some w)) h = (h.0, call_lasts true c h.0 h.1, h.2, h.3)

  alone_lasts : (x : ExprTree) → IsTypedAlone env ls x → IsTypedAlone env (ls ++ more) x
  alone_lasts x (inl h) = inl (expr_lasts x h.0, h.1)
  alone_lasts x (inr h) = inr (h.0, h.1, expr_lasts h.0 h.2, h.3)

  pub effect_lasts : (e : EffectTree) → IsTypedEffect env ls e → IsTypedEffect env (ls ++ more) e
  effect_lasts (set l r s) h = (expr_lasts l h.0, h.1, rhs_lasts (type_of l) r h.2)
  effect_lasts (update op l x s) h = (expr_lasts l h.0, expr_lasts x h.1, h.2, h.3, h.4)
  effect_lasts (call_alone c) h = (h.0, call_lasts false c h.0 h.1)
  effect_lasts (value_alone x) h = alone_lasts x h

  pub effects_last : (es : List EffectTree) → AreTypedEffects env ls es → AreTypedEffects env (ls ++ more) es
  effects_last [] h = tt
  effects_last (e ∷ es) h = (effect_lasts e h.0, effects_last es h.1)

  pub condition_lasts : (x : ExprTree) → IsTypedCondition env ls x → IsTypedCondition env (ls ++ more) x
  condition_lasts x h = (expr_lasts x h.0, h.1)

  pub optional_lasts : (x : Option ExprTree) → IsTypedOptional env ls x → IsTypedOptional env (ls ++ more) x
  optional_lasts None h = tt
  optional_lasts (Some x) h = condition_lasts x h

  initial_lasts : (t : TypeTree) (r : Option RhsTree) → IsTypedInitial env ls t r → IsTypedInitial env (ls ++ more) t r
  initial_lasts t None h = tt
  initial_lasts t (Some r) h = rhs_lasts t r h

  return_lasts : (t : TypeTree) (r : Option RhsTree) → IsTypedReturn env ls t r → IsTypedReturn env (ls ++ more) t r
  return_lasts t None h = h
  return_lasts t (Some r) h = (h.0, rhs_lasts t r h.1)

  mutual
    pub stmt_lasts : (around : Around) (s : StmtTree) → IsTypedStmt env around ls s → IsTypedStmt env around (ls ++ more) s
    stmt_lasts around (stmt s k) h = stmt_kind_lasts around k h

    stmt_kind_lasts : (around : Around) (k : StmtKindTree) → IsTypedKind env around ls k → IsTypedKind env around (ls ++ more) k
    stmt_kind_lasts around (block ss) h = stmts_last around ss h
    stmt_kind_lasts around empty h = tt
    stmt_kind_lasts around (effect e) h = effect_lasts e h
    stmt_kind_lasts around (declare x t r) h = (slice_more ls more x t h.0, initial_lasts t r h.1)
    stmt_kind_lasts around (if_alone c a) h = (condition_lasts c h.0, stmt_lasts around a h.1)
    stmt_kind_lasts around (if_else c a b) h = (condition_lasts c h.0, stmt_lasts around a h.1, stmt_lasts around b h.2)
    stmt_kind_lasts around (while c a) h = (condition_lasts c h.0, stmt_lasts (in_loop around) a h.1)
    stmt_kind_lasts around (do_while a c) h = (stmt_lasts (in_loop around) a h.0, condition_lasts c h.1)
    stmt_kind_lasts around (for init c steps a) h = (stmts_last around init h.0, optional_lasts c h.1, effects_last steps h.2, stmt_lasts (in_loop around) a h.3)
    stmt_kind_lasts around (switch v gs) h = (expr_lasts v h.0, h.1, groups_last (in_switch around) gs h.2)
    stmt_kind_lasts around break h = h
    stmt_kind_lasts around continue h = h
    stmt_kind_lasts around (return r) h = return_lasts around.result r h

    pub stmts_last : (around : Around) (ss : StmtTrees) → AreTypedStmts env around ls ss → AreTypedStmts env around (ls ++ more) ss
    stmts_last around no_stmt h = tt
    stmts_last around (also_stmt s ss) h = (stmt_lasts around s h.0, stmts_last around ss h.1)

    pub groups_last : (around : Around) (gs : GroupTrees) → AreTypedGroups env around ls gs → AreTypedGroups env around (ls ++ more) gs
    groups_last around no_group h = tt
    groups_last around (also_group labels ss gs) h = (h.0, stmts_last around ss h.1, groups_last around gs h.2)
