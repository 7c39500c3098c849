-- The walk gives statements their types exactly where the rules do.
use Rattle.std.proofs.Common.{◌≡◌, ℕ, ℤ, Bool, true, false, List, [], ◌++◌, length, Option, None, Some, refl, ap, sym, ◌∙◌, subst}
use Rattle.std.specs.Prelude.{Ok, if◌then◌else◌}
use Rattle.cx_base.specs.declared.span.Span.{Span}
use Rattle.cx_base.specs.declared.number.CInt.{CInt}
use Rattle.cx_ctree.specs.Types.{TypeTree}
use Rattle.cx_ctree.specs.Exprs.{ExprTree, span_of, RhsTree, EffectTree}
use Rattle.cx_ctree.specs.Stmts.{StmtTree, stmt, StmtKindTree, block, empty, effect, declare, if_alone, if_else, while, do_while, for, switch, break, continue, return, StmtTrees, no_stmt, also_stmt, GroupTrees, no_group, also_group}
use Rattle.cx_ctype.specs.Operations.{is_int}
use Rattle.cx_sname.specs.File.{Declared}
use Rattle.cx_scope.specs.Locals.{Locals, declared, opened, closed}
use Rattle.cx_snode.specs.Judging.{Judged, breaks, ◌>>=◌}
use Rattle.cx_snode.specs.Nodes.{value_of}
use Rattle.cx_snode.proofs.Judged.{parts_of, ok_same, gives_then, judged_as}
use Rattle.cx_sexpr.specs.Typing.{typed}
use Rattle.cx_seffect.specs.Calls.{is_void, assigned, typed_rhs}
use Rattle.cx_seffect.specs.Effects.{typed_effect, typed_effects, typed_condition, typed_optional}
use Rattle.cx_sstmt.specs.Labels.{Seen, none_seen, Labelled, typed_labels}
use Rattle.cx_sstmt.specs.Stmts as walk
use Rattle.cx_sstmt.specs.Stmts.{Around, in_loop, in_switch, After, gives, is_variable, initialised, variable_by, returned, typed_return, typed_jump, switched, label_type, staying, leaving, typed_stmt, typed_stmt_kind, typed_stmts, typed_groups}
use Rattle.cx_sema.specs.ExprRules.{HasTypes}
use Rattle.cx_sema.specs.PartRules.{IsRhsOf, IsEffectOf, IsInitialOf}
use Rattle.cx_sema.specs.StmtRules.{after, IsStmtOf, IsKindOf, AreStmtsOf, AreGroupsOf}
use Rattle.cx_sema.proofs.ExprBoth.{has_types, types_are}
use Rattle.cx_sema.proofs.PartBoth.{test_then, rhs_has, rhs_is, effect_has, effect_is, effects_have, effects_are, condition_has, condition_is, optional_has, optional_is}
use Rattle.cx_sema.proofs.LabelBoth.{with_labels, are_fresh, fresh_both, both_fresh, labels_have, labels_are, fresh_differ, differ_fresh}
use Rattle.cx_sema.proofs.Holding.{tested, not_void, switched_is}

-- ---- what stays, and what is left

-- a tree that is given with its locals is what is judged
given_is : {A : Type 0} (x : A) (now : Locals) (a : After A) → gives x now ≡ Ok a → a ≡ after x now
given_is x now a h = sym (ok_same (after x now) a h)

is_given : {A : Type 0} (x : A) (now : Locals) (a : After A) → a ≡ after x now → gives x now ≡ Ok a
is_given x now a h = ap judged_as (sym h)

stays_has : (ls : Locals) (j : Judged StmtTree) (a : After StmtTree) → staying ls j ≡ Ok a → (x : StmtTree) × (j ≡ Ok x) × (a ≡ after x ls)
stays_has ls j a h =
    let x = parts_of j (λ x. gives x ls) a h in
    (x.0, x.1, given_is x.0 ls a x.2)

stays_is : (ls : Locals) (j : Judged StmtTree) (x : StmtTree) (a : After StmtTree) → j ≡ Ok x → a ≡ after x ls → staying ls j ≡ Ok a
stays_is ls j x a h e = gives_then j x (λ x. gives x ls) h ∙ is_given x ls a e

left_has : {A : Type 0} (r : Judged (After A)) (a : After A) → leaving r ≡ Ok a → (b : After A) × (r ≡ Ok b) × (a ≡ after b.tree (closed b.locals))
left_has r a h =
    let b = parts_of r (λ b. gives b.tree (closed b.locals)) a h in
    (b.0, b.1, given_is b.0.tree (closed b.0.locals) a b.2)

left_is : {A : Type 0} (r : Judged (After A)) (b : After A) → r ≡ Ok b → leaving r ≡ Ok (after b.tree (closed b.locals))
left_is r b h = gives_then r b (λ b. gives b.tree (closed b.locals)) h

-- ---- statements that hold no statement

effect_stmt_has : (env : Declared) (ls : Locals) (s : Span) (e : EffectTree) (x : StmtTree) → walk.typed_alone env ls s e ≡ Ok x → (f : EffectTree) × IsEffectOf env ls e f × (x ≡ stmt s (effect f))
effect_stmt_has env ls s e x h =
    let f = parts_of (typed_effect env ls e) (λ f. Ok (stmt s (effect f))) x h in
    (f.0, effect_has env ls e f.0 f.1, sym (ok_same (stmt s (effect f.0)) x f.2))

return_has : (env : Declared) (ls : Locals) (s : Span) (t : TypeTree) (r : RhsTree) (x : StmtTree) → typed_return env ls s t (Some r) ≡ Ok x
    → (is_void t ≡ false) × ((q : RhsTree) × IsRhsOf env ls t r q × (x ≡ stmt s (return (Some q))))
return_has env ls s t r x h =
    let v = parts_of (typed_rhs env ls r) (returned s t) x h in
    let p = not_void (is_void t) (assigned t v.0 >>= (λ r. Ok (stmt s (return (Some r))))) s x v.2 in
    let a = parts_of (assigned t v.0) (λ r. Ok (stmt s (return (Some r)))) x p.1 in
    (p.0, (a.0, rhs_has env ls t r v.0 a.0 v.1 a.1, sym (ok_same (stmt s (return (Some a.0))) x a.2)))

not_then : (b : Bool) (j : Judged StmtTree) (s : Span) → b ≡ false → (if b then breaks s 9 else j) ≡ j
not_then true j s h = absurd cc
not_then false j s h = refl

return_is : (env : Declared) (ls : Locals) (s : Span) (t : TypeTree) (r q : RhsTree) → is_void t ≡ false → IsRhsOf env ls t r q → typed_return env ls s t (Some r) ≡ Ok (stmt s (return (Some q)))
return_is env ls s t r q e h =
    let v = rhs_is env ls t r q h in
    gives_then (typed_rhs env ls r) v.0 (returned s t) v.1
    ∙ not_then (is_void t) (assigned t v.0 >>= (λ r. Ok (stmt s (return (Some r))))) s e
    ∙ gives_then (assigned t v.0) q (λ r. Ok (stmt s (return (Some r)))) v.2

variable_has : (env : Declared) (ls : Locals) (s : Span) (n : ℕ) (t : TypeTree) (r : Option RhsTree) (x : StmtTree) → variable_by env ls s n t r ≡ Ok x
    → (is_variable ls n t ≡ true) × ((q : Option RhsTree) × IsInitialOf env (declared n t ls) t r q × (x ≡ stmt s (declare (length ls.types) t q)))
variable_has env ls s n t None x h =
    let p = tested (is_variable ls n t) (Ok (stmt s (declare (length ls.types) t None))) s 12 x h in
    (p.0, (None, refl, sym (ok_same (stmt s (declare (length ls.types) t None)) x p.1)))
variable_has env ls s n t (Some r) x h =
    let v = parts_of (typed_rhs env (declared n t ls) r) (initialised s (is_variable ls n t) (length ls.types) t) x h in
    let p = tested (is_variable ls n t) (assigned t v.0 >>= (λ r. Ok (stmt s (declare (length ls.types) t (Some r))))) s 12 x v.2 in
    let a = parts_of (assigned t v.0) (λ r. Ok (stmt s (declare (length ls.types) t (Some r)))) x p.1 in
    (p.0, (Some a.0, (a.0, rhs_has env (declared n t ls) t r v.0 a.0 v.1 a.1, refl), sym (ok_same (stmt s (declare (length ls.types) t (Some a.0))) x a.2)))

variable_is : (env : Declared) (ls : Locals) (s : Span) (n : ℕ) (t : TypeTree) (r q : Option RhsTree) → is_variable ls n t ≡ true → IsInitialOf env (declared n t ls) t r q → variable_by env ls s n t r ≡ Ok (stmt s (declare (length ls.types) t q))
variable_is env ls s n t None q e h = test_then (is_variable ls n t) (Ok (stmt s (declare (length ls.types) t None))) s 12 e ∙ ap (λ q. judged_as (stmt s (declare (length ls.types) t q))) (sym h)
variable_is env ls s n t (Some r) q e h =
    let v = rhs_is env (declared n t ls) t r h.0 h.1 in
    gives_then (typed_rhs env (declared n t ls) r) v.0 (initialised s (is_variable ls n t) (length ls.types) t) v.1
    ∙ test_then (is_variable ls n t) (assigned t v.0 >>= (λ r. Ok (stmt s (declare (length ls.types) t (Some r))))) s 12 e
    ∙ gives_then (assigned t v.0) h.0 (λ r. Ok (stmt s (declare (length ls.types) t (Some r)))) v.2
    ∙ ap (λ q. judged_as (stmt s (declare (length ls.types) t q))) (sym h.2)

switched_then : (w : ExprTree) → is_int (value_of w) ≡ true → switched w ≡ Ok w
switched_then w h = test_then (is_int (value_of w)) (Ok w) (span_of w) 10 h

-- ---- what follows the parts of a statement

module _ (env : Declared) (around : Around) (s : Span) where
  abbrev block_then : After StmtTrees → Judged (After StmtTree)
  block_then b = gives (stmt s (block b.tree)) b.locals

  abbrev if_then : ExprTree → After StmtTree → Judged (After StmtTree)
  if_then d b = gives (stmt s (if_alone d b.tree)) b.locals

  abbrev else_then : ExprTree → StmtTree → After StmtTree → Judged (After StmtTree)
  else_then d x e = gives (stmt s (if_else d x e.tree)) e.locals

  abbrev other_then : ExprTree → StmtTree → After StmtTree → Judged (After StmtTree)
  other_then d y b = leaving (typed_stmt env around (opened b.locals) y) >>= (λ e. gives (stmt s (if_else d b.tree e.tree)) e.locals)

  abbrev while_then : ExprTree → After StmtTree → Judged (After StmtTree)
  while_then d b = gives (stmt s (while d b.tree)) b.locals

  abbrev do_then : After StmtTree → ExprTree → Judged (After StmtTree)
  do_then b d = gives (stmt s (do_while b.tree d)) b.locals

  abbrev for_then : StmtTrees → Option ExprTree → List EffectTree → After StmtTree → Judged (After StmtTree)
  for_then i d es b = gives (stmt s (for i d es b.tree)) b.locals

  abbrev for_body : Locals → StmtTrees → Option ExprTree → StmtTree → List EffectTree → Judged (After StmtTree)
  for_body ls i d x es = leaving (typed_stmt env (in_loop around) (opened ls) x) >>= (λ b. gives (stmt s (for i d es b.tree)) b.locals)

  abbrev for_steps : Locals → StmtTrees → List EffectTree → StmtTree → Option ExprTree → Judged (After StmtTree)
  for_steps ls i steps x d = typed_effects env ls steps >>= (λ es. leaving (typed_stmt env (in_loop around) (opened ls) x) >>= (λ b. gives (stmt s (for i d es b.tree)) b.locals))

  abbrev for_rest : Option ExprTree → List EffectTree → StmtTree → After StmtTrees → Judged (After StmtTree)
  for_rest c steps x i = typed_optional env i.locals c >>= (λ d. typed_effects env i.locals steps >>= (λ es. leaving (typed_stmt env (in_loop around) (opened i.locals) x) >>= (λ b. gives (stmt s (for i.tree d es b.tree)) b.locals)))

  abbrev switch_then : ExprTree → After GroupTrees → Judged (After StmtTree)
  switch_then w b = gives (stmt s (switch w b.tree)) b.locals

  abbrev switch_rest : Locals → GroupTrees → ExprTree → Judged (After StmtTree)
  switch_rest ls gs w = leaving (typed_groups env (in_switch around) (opened ls) (label_type w) s none_seen gs >>= (λ b. gives (stmt s (switch w b.tree)) b.locals))

abbrev also_then : StmtTree → After StmtTrees → Judged (After StmtTrees)
also_then x b = gives (also_stmt x b.tree) b.locals

abbrev rest_then : Declared → Around → StmtTrees → After StmtTree → Judged (After StmtTrees)
rest_then env around ss a = typed_stmts env around a.locals ss >>= (λ b. gives (also_stmt a.tree b.tree) b.locals)

abbrev group_then : List (Option ExprTree) → StmtTrees → After GroupTrees → Judged (After GroupTrees)
group_then ys x b = gives (also_group ys x b.tree) b.locals

abbrev groups_then : Declared → Around → CInt → Span → GroupTrees → Labelled → After StmtTrees → Judged (After GroupTrees)
groups_then env around t s gs l a = typed_groups env around a.locals t s l.seen gs >>= (λ b. gives (also_group l.labels a.tree b.tree) b.locals)

abbrev body_then : Declared → Around → Locals → CInt → Span → StmtTrees → GroupTrees → Labelled → Judged (After GroupTrees)
body_then env around ls t s ss gs l = typed_stmts env around ls ss >>= (λ a. typed_groups env around a.locals t s l.seen gs >>= (λ b. gives (also_group l.labels a.tree b.tree) b.locals))

-- ---- what the walk gives

-- the groups, where the labels before them are in seen
abbrev HaveGroups : Declared → Around → Locals → CInt → Seen → GroupTrees → After GroupTrees → Type 0
HaveGroups env around ls t seen gs a = (vs : List (Option ℤ)) × AreGroupsOf env around ls t gs a vs × (are_fresh seen vs ≡ true)

mutual
  pub stmt_has : (env : Declared) (around : Around) (ls : Locals) (x : StmtTree) (a : After StmtTree) → typed_stmt env around ls x ≡ Ok a → IsStmtOf env around ls x a
  stmt_has env around ls (stmt s k) a h = stmt_kind_has env around ls s k a h

  stmt_kind_has : (env : Declared) (around : Around) (ls : Locals) (s : Span) (k : StmtKindTree) (a : After StmtTree) → typed_stmt_kind env around ls s k ≡ Ok a → IsKindOf env around ls s k a
  stmt_kind_has env around ls s (block ss) a h =
      let l = left_has (typed_stmts env around (opened ls) ss >>= block_then env around s) a h in
      let b = parts_of (typed_stmts env around (opened ls) ss) (block_then env around s) l.0 l.1 in
      let e = given_is (stmt s (block b.0.tree)) b.0.locals l.0 b.2 in
      (b.0, stmts_have env around (opened ls) ss b.0 b.1, subst (λ (x : After StmtTree). a ≡ after x.tree (closed x.locals)) e l.2)
  stmt_kind_has env around ls s empty a h = given_is (stmt s empty) ls a h
  stmt_kind_has env around ls s (effect e) a h =
      let x = stays_has ls (walk.typed_alone env ls s e) a h in
      let f = effect_stmt_has env ls s e x.0 x.1 in
      (f.0, f.1, x.2 ∙ ap (λ (y : StmtTree). after y ls) f.2)
  stmt_kind_has env around ls s (declare n t r) a h =
      let x = parts_of (variable_by env ls s n t r) (λ d. gives d (declared n t ls)) a h in
      let v = variable_has env ls s n t r x.0 x.1 in
      (v.0, v.1.0, v.1.1, given_is x.0 (declared n t ls) a x.2 ∙ ap (λ (y : StmtTree). after y (declared n t ls)) v.1.2)
  stmt_kind_has env around ls s (if_alone c x) a h =
      let d = parts_of (typed_condition env ls c) (λ d. leaving (typed_stmt env around (opened ls) x) >>= if_then env around s d) a h in
      let l = parts_of (leaving (typed_stmt env around (opened ls) x)) (if_then env around s d.0) a d.2 in
      let b = left_has (typed_stmt env around (opened ls) x) l.0 l.1 in (
        d.0,
        condition_has env ls c d.0 d.1,
        b.0,
        stmt_has env around (opened ls) x b.0 b.1,
        given_is (stmt s (if_alone d.0 l.0.tree)) l.0.locals a l.2 ∙ ap (λ (y : After StmtTree). after (stmt s (if_alone d.0 y.tree)) y.locals) b.2,
      )
  stmt_kind_has env around ls s (if_else c x y) a h =
      let d = parts_of (typed_condition env ls c) (λ d. leaving (typed_stmt env around (opened ls) x) >>= other_then env around s d y) a h in
      let l = parts_of (leaving (typed_stmt env around (opened ls) x)) (other_then env around s d.0 y) a d.2 in
      let b = left_has (typed_stmt env around (opened ls) x) l.0 l.1 in
      let q : other_then env around s d.0 y (after b.0.tree (closed b.0.locals)) ≡ Ok a = subst (λ (z : After StmtTree). other_then env around s d.0 y z ≡ Ok a) b.2 l.2 in
      let m = parts_of (leaving (typed_stmt env around (opened (closed b.0.locals)) y)) (else_then env around s d.0 b.0.tree) a q in
      let e = left_has (typed_stmt env around (opened (closed b.0.locals)) y) m.0 m.1 in (
        d.0,
        condition_has env ls c d.0 d.1,
        b.0,
        stmt_has env around (opened ls) x b.0 b.1,
        e.0,
        stmt_has env around (opened (closed b.0.locals)) y e.0 e.1,
        given_is (stmt s (if_else d.0 b.0.tree m.0.tree)) m.0.locals a m.2 ∙ ap (λ (z : After StmtTree). after (stmt s (if_else d.0 b.0.tree z.tree)) z.locals) e.2,
      )
  stmt_kind_has env around ls s (while c x) a h =
      let d = parts_of (typed_condition env ls c) (λ d. leaving (typed_stmt env (in_loop around) (opened ls) x) >>= while_then env around s d) a h in
      let l = parts_of (leaving (typed_stmt env (in_loop around) (opened ls) x)) (while_then env around s d.0) a d.2 in
      let b = left_has (typed_stmt env (in_loop around) (opened ls) x) l.0 l.1 in (
        d.0,
        condition_has env ls c d.0 d.1,
        b.0,
        stmt_has env (in_loop around) (opened ls) x b.0 b.1,
        given_is (stmt s (while d.0 l.0.tree)) l.0.locals a l.2 ∙ ap (λ (y : After StmtTree). after (stmt s (while d.0 y.tree)) y.locals) b.2,
      )
  stmt_kind_has env around ls s (do_while x c) a h =
      let l = parts_of (leaving (typed_stmt env (in_loop around) (opened ls) x)) (λ b. typed_condition env b.locals c >>= do_then env around s b) a h in
      let b = left_has (typed_stmt env (in_loop around) (opened ls) x) l.0 l.1 in
      let q : (typed_condition env (closed b.0.locals) c >>= do_then env around s (after b.0.tree (closed b.0.locals))) ≡ Ok a = subst (λ (z : After StmtTree). (typed_condition env z.locals c >>= do_then env around s z) ≡ Ok a) b.2 l.2 in
      let d = parts_of (typed_condition env (closed b.0.locals) c) (do_then env around s (after b.0.tree (closed b.0.locals))) a q in
      (b.0, stmt_has env (in_loop around) (opened ls) x b.0 b.1, d.0, condition_has env (closed b.0.locals) c d.0 d.1, given_is (stmt s (do_while b.0.tree d.0)) (closed b.0.locals) a d.2)
  stmt_kind_has env around ls s (for init c steps x) a h =
      let o = left_has (typed_stmts env around (opened ls) init >>= for_rest env around s c steps x) a h in
      let i = parts_of (typed_stmts env around (opened ls) init) (for_rest env around s c steps x) o.0 o.1 in
      let d = parts_of (typed_optional env i.0.locals c) (for_steps env around s i.0.locals i.0.tree steps x) o.0 i.2 in
      let es = parts_of (typed_effects env i.0.locals steps) (for_body env around s i.0.locals i.0.tree d.0 x) o.0 d.2 in
      let l = parts_of (leaving (typed_stmt env (in_loop around) (opened i.0.locals) x)) (for_then env around s i.0.tree d.0 es.0) o.0 es.2 in
      let b = left_has (typed_stmt env (in_loop around) (opened i.0.locals) x) l.0 l.1 in
      let e = given_is (stmt s (for i.0.tree d.0 es.0 l.0.tree)) l.0.locals o.0 l.2 ∙ ap (λ (z : After StmtTree). after (stmt s (for i.0.tree d.0 es.0 z.tree)) z.locals) b.2 in (
        i.0,
        stmts_have env around (opened ls) init i.0 i.1,
        d.0,
        optional_has env i.0.locals c d.0 d.1,
        es.0,
        effects_have env i.0.locals steps es.0 es.1,
        b.0,
        stmt_has env (in_loop around) (opened i.0.locals) x b.0 b.1,
        subst (λ (z : After StmtTree). a ≡ after z.tree (closed z.locals)) e o.2,
      )
  stmt_kind_has env around ls s (switch v gs) a h =
      let x = parts_of (typed env ls v) (λ y. switched y >>= switch_rest env around s ls gs) a h in
      let w = parts_of (switched x.0) (switch_rest env around s ls gs) a x.2 in
      let p = switched_is x.0 w.0 w.1 in
      let l = left_has (typed_groups env (in_switch around) (opened ls) (label_type w.0) s none_seen gs >>= switch_then env around s w.0) a w.2 in
      let b = parts_of (typed_groups env (in_switch around) (opened ls) (label_type w.0) s none_seen gs) (switch_then env around s w.0) l.0 l.1 in
      let e = given_is (stmt s (switch w.0 b.0.tree)) b.0.locals l.0 b.2 in
      let g = groups_have env (in_switch around) (opened ls) (label_type w.0) s none_seen gs b.0 b.1 in (
        w.0,
        subst (HasTypes env ls v) p.1 (has_types env ls v x.0 x.1),
        subst (λ (y : ExprTree). is_int (value_of y) ≡ true) p.1 p.0,
        b.0,
        g.0,
        g.1,
        fresh_differ g.0 g.2,
        subst (λ (z : After StmtTree). a ≡ after z.tree (closed z.locals)) e l.2,
      )
  stmt_kind_has env around ls s break a h =
      let x = stays_has ls (typed_jump s around.breakable break) a h in
      let p = tested around.breakable (Ok (stmt s break)) s 11 x.0 x.1 in
      (p.0, x.2 ∙ ap (λ (y : StmtTree). after y ls) (sym (ok_same (stmt s break) x.0 p.1)))
  stmt_kind_has env around ls s continue a h =
      let x = stays_has ls (typed_jump s around.looped continue) a h in
      let p = tested around.looped (Ok (stmt s continue)) s 11 x.0 x.1 in
      (p.0, x.2 ∙ ap (λ (y : StmtTree). after y ls) (sym (ok_same (stmt s continue) x.0 p.1)))
  stmt_kind_has env around ls s (return None) a h =
      let x = stays_has ls (typed_return env ls s around.result None) a h in
      let p = tested (is_void around.result) (Ok (stmt s (return None))) s 9 x.0 x.1 in
      (p.0, x.2 ∙ ap (λ (y : StmtTree). after y ls) (sym (ok_same (stmt s (return None)) x.0 p.1)))
  stmt_kind_has env around ls s (return (Some r)) a h =
      let x = stays_has ls (typed_return env ls s around.result (Some r)) a h in
      let p = return_has env ls s around.result r x.0 x.1 in
      (p.0, p.1.0, p.1.1, x.2 ∙ ap (λ (y : StmtTree). after y ls) p.1.2)

  pub stmts_have : (env : Declared) (around : Around) (ls : Locals) (ss : StmtTrees) (a : After StmtTrees) → typed_stmts env around ls ss ≡ Ok a → AreStmtsOf env around ls ss a
  stmts_have env around ls no_stmt a h = given_is no_stmt ls a h
  stmts_have env around ls (also_stmt x ss) a h =
      let b = parts_of (typed_stmt env around ls x) (rest_then env around ss) a h in
      let c = parts_of (typed_stmts env around b.0.locals ss) (also_then b.0.tree) a b.2 in
      (b.0, stmt_has env around ls x b.0 b.1, c.0, stmts_have env around b.0.locals ss c.0 c.1, given_is (also_stmt b.0.tree c.0.tree) c.0.locals a c.2)

  groups_have : (env : Declared) (around : Around) (ls : Locals) (t : CInt) (s : Span) (seen : Seen) (gs : GroupTrees) (a : After GroupTrees) → typed_groups env around ls t s seen gs ≡ Ok a → HaveGroups env around ls t seen gs a
  groups_have env around ls t s seen no_group a h = ([], (given_is no_group ls a h, refl), refl)
  groups_have env around ls t s seen (also_group xs ss gs) a h =
      let l = parts_of (typed_labels env t s seen xs) (body_then env around ls t s ss gs) a h in
      let b = parts_of (typed_stmts env around ls ss) (groups_then env around t s gs l.0) a l.2 in
      let c = parts_of (typed_groups env around b.0.locals t s l.0.seen gs) (group_then l.0.labels b.0.tree) a b.2 in
      let v = labels_have env t s seen xs l.0 l.1 in
      let g = groups_have env around b.0.locals t s l.0.seen gs c.0 c.1 in
      let later : are_fresh (with_labels v.0 seen) g.0 ≡ true = subst (λ (n : Seen). are_fresh n g.0 ≡ true) (sym v.3) g.2 in (
        v.0 ++ g.0,
        (l.0.labels, v.0, v.1, b.0, stmts_have env around ls ss b.0 b.1, c.0, g.0, g.1, given_is (also_group l.0.labels b.0.tree c.0.tree) c.0.locals a c.2, refl),
        fresh_both v.0 g.0 seen v.2 later,
      )

-- ---- what the rules give

mutual
  pub stmt_is : (env : Declared) (around : Around) (ls : Locals) (x : StmtTree) (a : After StmtTree) → IsStmtOf env around ls x a → typed_stmt env around ls x ≡ Ok a
  stmt_is env around ls (stmt s k) a h = stmt_kind_is env around ls s k a h

  stmt_kind_is : (env : Declared) (around : Around) (ls : Locals) (s : Span) (k : StmtKindTree) (a : After StmtTree) → IsKindOf env around ls s k a → typed_stmt_kind env around ls s k ≡ Ok a
  stmt_kind_is env around ls s (block ss) a h =
      left_is (typed_stmts env around (opened ls) ss >>= block_then env around s) (after (stmt s (block h.0.tree)) h.0.locals) (gives_then (typed_stmts env around (opened ls) ss) h.0 (block_then env around s) (stmts_are env around (opened ls) ss h.0 h.1))
      ∙ ap judged_as (sym h.2)
  stmt_kind_is env around ls s empty a h = is_given (stmt s empty) ls a h
  stmt_kind_is env around ls s (effect e) a h =
      stays_is ls (walk.typed_alone env ls s e) (stmt s (effect h.0)) a (gives_then (typed_effect env ls e) h.0 (λ f. Ok (stmt s (effect f))) (effect_is env ls e h.0 h.1)) h.2
  stmt_kind_is env around ls s (declare n t r) a h =
      gives_then (variable_by env ls s n t r) (stmt s (declare (length ls.types) t h.1)) (λ d. gives d (declared n t ls)) (variable_is env ls s n t r h.1 h.0 h.2) ∙ ap judged_as (sym h.3)
  stmt_kind_is env around ls s (if_alone c x) a h =
      gives_then (typed_condition env ls c) h.0 (λ d. leaving (typed_stmt env around (opened ls) x) >>= if_then env around s d) (condition_is env ls c h.0 h.1)
      ∙ gives_then (leaving (typed_stmt env around (opened ls) x)) (after h.2.tree (closed h.2.locals)) (if_then env around s h.0) (left_is (typed_stmt env around (opened ls) x) h.2 (stmt_is env around (opened ls) x h.2 h.3))
      ∙ ap judged_as (sym h.4)
  stmt_kind_is env around ls s (if_else c x y) a h =
      gives_then (typed_condition env ls c) h.0 (λ d. leaving (typed_stmt env around (opened ls) x) >>= other_then env around s d y) (condition_is env ls c h.0 h.1)
      ∙ gives_then (leaving (typed_stmt env around (opened ls) x)) (after h.2.tree (closed h.2.locals)) (other_then env around s h.0 y) (left_is (typed_stmt env around (opened ls) x) h.2 (stmt_is env around (opened ls) x h.2 h.3))
      ∙ gives_then (leaving (typed_stmt env around (opened (closed h.2.locals)) y)) (after h.4.tree (closed h.4.locals)) (else_then env around s h.0 h.2.tree) (left_is (typed_stmt env around (opened (closed h.2.locals)) y) h.4 (stmt_is env around (opened (closed h.2.locals)) y h.4 h.5))
      ∙ ap judged_as (sym h.6)
  stmt_kind_is env around ls s (while c x) a h =
      gives_then (typed_condition env ls c) h.0 (λ d. leaving (typed_stmt env (in_loop around) (opened ls) x) >>= while_then env around s d) (condition_is env ls c h.0 h.1)
      ∙ gives_then (leaving (typed_stmt env (in_loop around) (opened ls) x)) (after h.2.tree (closed h.2.locals)) (while_then env around s h.0) (left_is (typed_stmt env (in_loop around) (opened ls) x) h.2 (stmt_is env (in_loop around) (opened ls) x h.2 h.3))
      ∙ ap judged_as (sym h.4)
  stmt_kind_is env around ls s (do_while x c) a h =
      gives_then (leaving (typed_stmt env (in_loop around) (opened ls) x)) (after h.0.tree (closed h.0.locals)) (λ b. typed_condition env b.locals c >>= do_then env around s b) (left_is (typed_stmt env (in_loop around) (opened ls) x) h.0 (stmt_is env (in_loop around) (opened ls) x h.0 h.1))
      ∙ gives_then (typed_condition env (closed h.0.locals) c) h.2 (do_then env around s (after h.0.tree (closed h.0.locals))) (condition_is env (closed h.0.locals) c h.2 h.3)
      ∙ ap judged_as (sym h.4)
  stmt_kind_is env around ls s (for init c steps x) a h =
      left_is (typed_stmts env around (opened ls) init >>= for_rest env around s c steps x) (after (stmt s (for h.0.tree h.2 h.4 h.6.tree)) (closed h.6.locals))
      (gives_then (typed_stmts env around (opened ls) init) h.0 (for_rest env around s c steps x) (stmts_are env around (opened ls) init h.0 h.1)
      ∙ gives_then (typed_optional env h.0.locals c) h.2 (for_steps env around s h.0.locals h.0.tree steps x) (optional_is env h.0.locals c h.2 h.3)
      ∙ gives_then (typed_effects env h.0.locals steps) h.4 (for_body env around s h.0.locals h.0.tree h.2 x) (effects_are env h.0.locals steps h.4 h.5)
      ∙ gives_then (leaving (typed_stmt env (in_loop around) (opened h.0.locals) x)) (after h.6.tree (closed h.6.locals)) (for_then env around s h.0.tree h.2 h.4) (left_is (typed_stmt env (in_loop around) (opened h.0.locals) x) h.6 (stmt_is env (in_loop around) (opened h.0.locals) x h.6 h.7)))
      ∙ ap judged_as (sym h.8)
  stmt_kind_is env around ls s (switch v gs) a h =
      gives_then (typed env ls v) h.0 (λ y. switched y >>= switch_rest env around s ls gs) (types_are env ls v h.0 h.1)
      ∙ gives_then (switched h.0) h.0 (switch_rest env around s ls gs) (switched_then h.0 h.2)
      ∙ left_is (typed_groups env (in_switch around) (opened ls) (label_type h.0) s none_seen gs >>= switch_then env around s h.0) (after (stmt s (switch h.0 h.3.tree)) h.3.locals)
      (gives_then (typed_groups env (in_switch around) (opened ls) (label_type h.0) s none_seen gs) h.3 (switch_then env around s h.0) (groups_are env (in_switch around) (opened ls) (label_type h.0) s none_seen gs h.3 h.4 h.5 (differ_fresh h.4 h.6)))
      ∙ ap judged_as (sym h.7)
  stmt_kind_is env around ls s break a h = stays_is ls (typed_jump s around.breakable break) (stmt s break) a (test_then around.breakable (Ok (stmt s break)) s 11 h.0) h.1
  stmt_kind_is env around ls s continue a h = stays_is ls (typed_jump s around.looped continue) (stmt s continue) a (test_then around.looped (Ok (stmt s continue)) s 11 h.0) h.1
  stmt_kind_is env around ls s (return None) a h = stays_is ls (typed_return env ls s around.result None) (stmt s (return None)) a (test_then (is_void around.result) (Ok (stmt s (return None))) s 9 h.0) h.1
  stmt_kind_is env around ls s (return (Some r)) a h = stays_is ls (typed_return env ls s around.result (Some r)) (stmt s (return (Some h.1))) a (return_is env ls s around.result r h.1 h.0 h.2) h.3

  pub stmts_are : (env : Declared) (around : Around) (ls : Locals) (ss : StmtTrees) (a : After StmtTrees) → AreStmtsOf env around ls ss a → typed_stmts env around ls ss ≡ Ok a
  stmts_are env around ls no_stmt a h = is_given no_stmt ls a h
  stmts_are env around ls (also_stmt x ss) a h =
      gives_then (typed_stmt env around ls x) h.0 (rest_then env around ss) (stmt_is env around ls x h.0 h.1)
      ∙ gives_then (typed_stmts env around h.0.locals ss) h.2 (also_then h.0.tree) (stmts_are env around h.0.locals ss h.2 h.3)
      ∙ ap judged_as (sym h.4)

  groups_are : (env : Declared) (around : Around) (ls : Locals) (t : CInt) (s : Span) (seen : Seen) (gs : GroupTrees) (a : After GroupTrees) (vs : List (Option ℤ)) → AreGroupsOf env around ls t gs a vs → are_fresh seen vs ≡ true → typed_groups env around ls t s seen gs ≡ Ok a
  groups_are env around ls t s seen no_group a vs h k = is_given no_group ls a h.0
  groups_are env around ls t s seen (also_group xs ss gs) a vs h k =
      let fresh = both_fresh h.1 h.6 seen (subst (λ ws. are_fresh seen ws ≡ true) h.9 k) in
      let l : Labelled = record { labels = h.0; seen = with_labels h.1 seen } in
      gives_then (typed_labels env t s seen xs) l (body_then env around ls t s ss gs) (labels_are env t s seen xs h.0 h.1 h.2 fresh.0)
      ∙ gives_then (typed_stmts env around ls ss) h.3 (groups_then env around t s gs l) (stmts_are env around ls ss h.3 h.4)
      ∙ gives_then (typed_groups env around h.3.locals t s (with_labels h.1 seen) gs) h.5 (group_then h.0 h.3.tree) (groups_are env around h.3.locals t s (with_labels h.1 seen) gs h.5 h.6 h.7 fresh.1)
      ∙ ap judged_as (sym h.8)
