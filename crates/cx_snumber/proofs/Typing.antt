-- A function with its types has only numbers that it had before, and those of enumeration constants.
use Rattle.std.proofs.Common.{ℕ, ℤ, ◌==◌, Bool, true, false, List, [], ◌∷◌, ◌++◌, Option, Some, None, option_map, sym, subst}
use Rattle.std.specs.Prelude.{All, if◌then◌else◌}
use Rattle.std.proofs.lemmas.List.Elements.{All-nil, All-cons, All-append}
use Rattle.cx_base.specs.declared.number.CInt.{CInt}
use Rattle.cx_base.specs.declared.span.Span.{Span}
use Rattle.cx_cname.specs.Known.{Meaning, a_type, a_constant, an_object, declared_as, or_else, value_of}
use Rattle.cx_ctree.specs.Decls.{DeclTree, types, object, proto, function, TypedTree}
use Rattle.cx_ctree.specs.Exprs.{ExprTree, node, ExprKindTree, num, name, local, global, unary, binary, cond, cast, size_of, size_of_expr, index, member, arrow, deref, address, CallTree, RhsTree, value, call, EffectTree, set, update, call_alone, value_alone}
use Rattle.cx_ctree.specs.Stmts.{StmtTree, stmt, StmtKindTree, block, empty, effect, declare, if_alone, if_else, while, do_while, for, switch, break, continue, return, StmtTrees, no_stmt, also_stmt, GroupTrees, no_group, also_group}
use Rattle.cx_ctree.specs.Types.{TypeTree, void}
use Rattle.cx_gline.proofs.Keeping.{all_split}
use Rattle.cx_gline.proofs.Labels.{MaySmall, named_small}
use Rattle.cx_gline.specs.Inside.{numbers_in, kind_numbers, all_numbers, right_numbers, effect_numbers, effects_numbers, initial_numbers, optional_numbers, labels_numbers, stmt_numbers, kind_stmt_numbers, stmts_numbers, groups_numbers}
use Rattle.cx_gline.specs.Law.{EnumerationsSmall}
use Rattle.cx_gline.specs.Lines.{IsSmall}
use Rattle.cx_scope.specs.Locals.{Locals, local_of, opened, closed, no_locals, declared}
use Rattle.cx_seffect.specs.Effects.{cast_away}
use Rattle.cx_sema.specs.ExprRules.{StandsFor, IsNamed, HasTypes, HasTypesAs}
use Rattle.cx_sema.specs.Functions.{around_body}
use Rattle.cx_sema.specs.PartRules.{HaveTypes, IsCallOf, IsRhsOf, IsAloneOf, IsEffectOf, AreEffectsOf, IsOptionalOf, IsInitialOf}
use Rattle.cx_sema.specs.StmtRules.{AreLabelsOf, IsStmtOf, IsKindOf, AreStmtsOf, AreGroupsOf, IsBodyOf}
use Rattle.cx_sname.specs.File.{Declared, meaning_of}
use Rattle.cx_snumber.specs.Law.{TypedIsSmall}
use Rattle.cx_sstmt.specs.Stmts.{Around, in_loop, in_switch, label_type, After}

-- ---- enumeration constants

abbrev MeaningSmall : Option Meaning → Type 0
MeaningSmall (Some (a_constant v)) = IsSmall v
MeaningSmall _ = Unit {0}

else_small : (m o : Option Meaning) → MeaningSmall m → MeaningSmall o → MeaningSmall (or_else m o)
else_small None o h k = k
else_small (Some m) o h k = h

meaning_if : (z : Bool) (m o : Option Meaning) → MeaningSmall m → MeaningSmall o → MeaningSmall (if z then m else o)
meaning_if true m o h k = h
meaning_if false m o h k = k

type_small : (o : Option TypeTree) → MeaningSmall (option_map a_type o)
type_small None = tt
type_small (Some t) = tt

constant_small : (o : Option ℤ) → MaySmall o → MeaningSmall (option_map a_constant o)
constant_small None h = tt
constant_small (Some v) h = h

as_declared : (n : ℕ) (ds : List DeclTree) → MeaningSmall (declared_as n ds)
as_declared n [] = tt
as_declared n (types ∷ ds) = as_declared n ds
as_declared n (object m t ∷ ds) = meaning_if (m == n) (Some (an_object t)) (declared_as n ds) tt (as_declared n ds)
as_declared n (proto s ∷ ds) = meaning_if (s.name == n) _ (declared_as n ds) tt (as_declared n ds)
as_declared n (function f ∷ ds) = meaning_if (f.sig.name == n) _ (declared_as n ds) tt (as_declared n ds)

abbrev ExprSmall : ExprTree → Type 0
ExprSmall x = All IsSmall (numbers_in x)

module _ (env : Declared) (few : EnumerationsSmall env.known) where
  meaning_small : (n : ℕ) → MeaningSmall (meaning_of env n)
  meaning_small n =
      else_small (option_map a_type (value_of n env.known.typedefs)) (or_else (option_map a_constant (value_of n env.known.consts)) (declared_as n env.decls)) (type_small (value_of n env.known.typedefs))
      (else_small (option_map a_constant (value_of n env.known.consts)) (declared_as n env.decls) (constant_small (value_of n env.known.consts) (named_small n env.known.consts few)) (as_declared n env.decls))

  -- ---- expressions

  stands_small : (s : Span) (n : ℕ) (m : Option Meaning) (y : ExprTree) → MeaningSmall m → StandsFor s n m y → ExprSmall y
  stands_small s n (Some (a_constant v)) y small same = subst ExprSmall (sym same) (All-cons IsSmall v [] small (All-nil IsSmall))
  stands_small s n (Some (an_object t)) y small same = subst ExprSmall (sym same) (All-nil IsSmall)
  stands_small s n _ y small none = absurd none

  named_as : (ls : Locals) (s : Span) (n : ℕ) (o : Option ℕ) (y : ExprTree) → IsNamed env ls s n o y → ExprSmall y
  named_as ls s n None y h = stands_small s n (meaning_of env n) y (meaning_small n) h
  named_as ls s n (Some x) y (t, there, same) = subst ExprSmall (sym same) (All-nil IsSmall)

  mutual
    types_small : (ls : Locals) (x y : ExprTree) → HasTypes env ls x y → ExprSmall x → ExprSmall y
    types_small ls (node s w k) y h small = kind_small ls s k y h small

    kind_small : (ls : Locals) (s : Span) (k : ExprKindTree) (y : ExprTree) → HasTypesAs env ls s k y → All IsSmall (kind_numbers k) → ExprSmall y
    kind_small ls s (num v w) y same small = subst ExprSmall (sym same) small
    kind_small ls s (name n) y h small = named_as ls s n (local_of ls n) y h
    kind_small ls s (local x) y none small = absurd none
    kind_small ls s (global n) y none small = absurd none
    kind_small ls s (unary op x) y (a, h, t, is, same) small = subst ExprSmall (sym same) (types_small ls x a h small)
    kind_small ls s (binary op x z) y (a, h, b, g, t, is, same) small =
        let p = all_split IsSmall (numbers_in x) (numbers_in z) small in subst ExprSmall (sym same) (All-append IsSmall (numbers_in a) (numbers_in b) (types_small ls x a h p.0) (types_small ls z b g p.1))
    kind_small ls s (cond c x z) y (d, f, a, h, b, g, scalar, t, is, same) small =
        let p = all_split IsSmall (numbers_in c) (numbers_in x ++ numbers_in z) small in let q = all_split IsSmall (numbers_in x) (numbers_in z) p.1 in
        subst ExprSmall (sym same)
        (All-append IsSmall (numbers_in d) (numbers_in a ++ numbers_in b) (types_small ls c d f p.0) (All-append IsSmall (numbers_in a) (numbers_in b) (types_small ls x a h q.0) (types_small ls z b g q.1)))
    kind_small ls s (cast w x) y (a, h, t, is, same) small = subst ExprSmall (sym same) (types_small ls x a h small)
    kind_small ls s (size_of w) y (t, is, same) small = subst ExprSmall (sym same) (All-nil IsSmall)
    kind_small ls s (size_of_expr x) y (a, h, t, is, same) small = subst ExprSmall (sym same) (All-nil IsSmall)
    kind_small ls s (index x z) y (a, h, b, g, t, is, same) small =
        let p = all_split IsSmall (numbers_in x) (numbers_in z) small in subst ExprSmall (sym same) (All-append IsSmall (numbers_in a) (numbers_in b) (types_small ls x a h p.0) (types_small ls z b g p.1))
    kind_small ls s (member x m) y (a, h, t, is, same) small = subst ExprSmall (sym same) (types_small ls x a h small)
    kind_small ls s (arrow x m) y (a, h, w, to, t, is, same) small = subst ExprSmall (sym same) (types_small ls x a h small)
    kind_small ls s (deref x) y (a, h, t, is, same) small = subst ExprSmall (sym same) (types_small ls x a h small)
    kind_small ls s (address x) y (a, h, is, same) small = subst ExprSmall (sym same) (types_small ls x a h small)

  all_small : (ls : Locals) (xs ys : List ExprTree) → HaveTypes env ls xs ys → All IsSmall (all_numbers xs) → All IsSmall (all_numbers ys)
  all_small ls [] ys same small = subst (λ zs. All IsSmall (all_numbers zs)) (sym same) (All-nil IsSmall)
  all_small ls (x ∷ xs) ys (a, h, others, g, same) small =
      let p = all_split IsSmall (numbers_in x) (all_numbers xs) small in
      subst (λ zs. All IsSmall (all_numbers zs)) (sym same) (All-append IsSmall (numbers_in a) (all_numbers others) (types_small ls x a h p.0) (all_small ls xs others g p.1))

  call_small : (ls : Locals) (taken : Bool) (c d : CallTree) (r : TypeTree) → IsCallOf env ls taken c d r → All IsSmall (all_numbers c.args) → All IsSmall (all_numbers d.args)
  call_small ls taken c d r (xs, h, ps, is, may, passed, same) small = subst (λ (d : CallTree). All IsSmall (all_numbers d.args)) (sym same) (all_small ls c.args xs h small)

  rhs_small : (ls : Locals) (t : TypeTree) (r y : RhsTree) → IsRhsOf env ls t r y → All IsSmall (right_numbers r) → All IsSmall (right_numbers y)
  rhs_small ls t (value x) y (a, h, fits, same) small = subst (λ r. All IsSmall (right_numbers r)) (sym same) (types_small ls x a h small)
  rhs_small ls t (call c None) y (d, r, h, fits, same) small = subst (λ r. All IsSmall (right_numbers r)) (sym same) (call_small ls true c d r h small)
  rhs_small ls t (call c (Some w)) y (d, r, h, casts, fits, same) small = subst (λ r. All IsSmall (right_numbers r)) (sym same) (call_small ls true c d r h small)

  -- ---- effects

  alone_small : (ls : Locals) (x y : ExprTree) → IsAloneOf env ls x (cast_away x) y → ExprSmall x → ExprSmall y
  alone_small ls (node s t (cast void z)) y (a, h, scalar, same) small = subst ExprSmall (sym same) (types_small ls z a h small)
  alone_small ls x y h small = types_small ls x y h.0 small

  effect_small : (ls : Locals) (e f : EffectTree) → IsEffectOf env ls e f → All IsSmall (effect_numbers e) → All IsSmall (effect_numbers f)
  effect_small ls (set l r s) f (a, h, place, v, g, same) small =
      let p = all_split IsSmall (right_numbers r) (numbers_in l) small in
      subst (λ e. All IsSmall (effect_numbers e)) (sym same) (All-append IsSmall (right_numbers v) (numbers_in a) (rhs_small ls _ r v g p.0) (types_small ls l a h p.1))
  effect_small ls (update op l x s) f (a, h, b, g, place, may, moves, same) small =
      let p = all_split IsSmall (numbers_in x) (numbers_in l) small in
      subst (λ e. All IsSmall (effect_numbers e)) (sym same) (All-append IsSmall (numbers_in b) (numbers_in a) (types_small ls x b g p.0) (types_small ls l a h p.1))
  effect_small ls (call_alone c) f (d, r, h, same) small = subst (λ e. All IsSmall (effect_numbers e)) (sym same) (call_small ls false c d r h small)
  effect_small ls (value_alone x) f (y, h, same) small = subst (λ e. All IsSmall (effect_numbers e)) (sym same) (alone_small ls x y h small)

  effects_small : (ls : Locals) (es fs : List EffectTree) → AreEffectsOf env ls es fs → All IsSmall (effects_numbers es) → All IsSmall (effects_numbers fs)
  effects_small ls [] fs same small = subst (λ gs. All IsSmall (effects_numbers gs)) (sym same) (All-nil IsSmall)
  effects_small ls (e ∷ es) fs (f, h, others, g, same) small =
      let p = all_split IsSmall (effect_numbers e) (effects_numbers es) small in
      subst (λ gs. All IsSmall (effects_numbers gs)) (sym same) (All-append IsSmall (effect_numbers f) (effects_numbers others) (effect_small ls e f h p.0) (effects_small ls es others g p.1))

  optional_small : (ls : Locals) (x y : Option ExprTree) → IsOptionalOf env ls x y → All IsSmall (optional_numbers x) → All IsSmall (optional_numbers y)
  optional_small ls None y same small = subst (λ o. All IsSmall (optional_numbers o)) (sym same) (All-nil IsSmall)
  optional_small ls (Some x) y (a, h, same) small = subst (λ o. All IsSmall (optional_numbers o)) (sym same) (types_small ls x a h.0 small)

  initial_small : (ls : Locals) (t : TypeTree) (r q : Option RhsTree) → IsInitialOf env ls t r q → All IsSmall (initial_numbers r) → All IsSmall (initial_numbers q)
  initial_small ls t None q same small = subst (λ o. All IsSmall (initial_numbers o)) (sym same) (All-nil IsSmall)
  initial_small ls t (Some r) q (v, h, same) small = subst (λ o. All IsSmall (initial_numbers o)) (sym same) (rhs_small ls t r v h small)

  labels_small : (t : CInt) (xs ys : List (Option ExprTree)) (vs : List (Option ℤ)) → AreLabelsOf env t xs ys vs → All IsSmall (labels_numbers xs) → All IsSmall (labels_numbers ys)
  labels_small t [] ys vs (same, values) small = subst (λ ls. All IsSmall (labels_numbers ls)) (sym same) (All-nil IsSmall)
  labels_small t (None ∷ xs) ys vs (zs, ws, h, same, values) small = subst (λ ls. All IsSmall (labels_numbers ls)) (sym same) (labels_small t xs zs ws h small)
  labels_small t (Some x ∷ xs) ys vs (a, h, v, is, zs, ws, g, same, values) small =
      let p = all_split IsSmall (numbers_in x) (labels_numbers xs) small in
      subst (λ ls. All IsSmall (labels_numbers ls)) (sym same) (All-append IsSmall (numbers_in a) (labels_numbers zs) (types_small no_locals x a h p.0) (labels_small t xs zs ws g p.1))

  -- ---- statements

  abbrev StmtAfter : After StmtTree → Type 0
  StmtAfter a = All IsSmall (stmt_numbers a.tree)

  mutual
    stmt_small : (around : Around) (ls : Locals) (s : StmtTree) (a : After StmtTree) → IsStmtOf env around ls s a → All IsSmall (stmt_numbers s) → StmtAfter a
    stmt_small around ls (stmt s k) a h small = stmt_kind_small around ls s k a h small

    stmt_kind_small : (around : Around) (ls : Locals) (s : Span) (k : StmtKindTree) (a : After StmtTree) → IsKindOf env around ls s k a → All IsSmall (kind_stmt_numbers k) → StmtAfter a
    stmt_kind_small around ls s (block ss) a (b, h, same) small = subst StmtAfter (sym same) (stmts_small around (opened ls) ss b h small)
    stmt_kind_small around ls s empty a same small = subst StmtAfter (sym same) (All-nil IsSmall)
    stmt_kind_small around ls s (effect e) a (f, h, same) small = subst StmtAfter (sym same) (effect_small ls e f h small)
    stmt_kind_small around ls s (declare n t r) a (is, q, h, same) small = subst StmtAfter (sym same) (initial_small (declared n t ls) t r q h small)
    stmt_kind_small around ls s (if_alone c x) a (d, f, b, h, same) small =
        let p = all_split IsSmall (numbers_in c) (stmt_numbers x) small in
        subst StmtAfter (sym same) (All-append IsSmall (numbers_in d) (stmt_numbers b.tree) (types_small ls c d f.0 p.0) (stmt_small around (opened ls) x b h p.1))
    stmt_kind_small around ls s (if_else c x y) a (d, f, b, h, e, g, same) small =
        let p = all_split IsSmall (numbers_in c) (stmt_numbers x ++ stmt_numbers y) small in let q = all_split IsSmall (stmt_numbers x) (stmt_numbers y) p.1 in
        subst StmtAfter (sym same)
        (All-append IsSmall (numbers_in d) (stmt_numbers b.tree ++ stmt_numbers e.tree) (types_small ls c d f.0 p.0)
        (All-append IsSmall (stmt_numbers b.tree) (stmt_numbers e.tree) (stmt_small around (opened ls) x b h q.0) (stmt_small around (opened (closed b.locals)) y e g q.1)))
    stmt_kind_small around ls s (while c x) a (d, f, b, h, same) small =
        let p = all_split IsSmall (numbers_in c) (stmt_numbers x) small in
        subst StmtAfter (sym same) (All-append IsSmall (numbers_in d) (stmt_numbers b.tree) (types_small ls c d f.0 p.0) (stmt_small (in_loop around) (opened ls) x b h p.1))
    stmt_kind_small around ls s (do_while x c) a (b, h, d, f, same) small =
        let p = all_split IsSmall (stmt_numbers x) (numbers_in c) small in
        subst StmtAfter (sym same) (All-append IsSmall (stmt_numbers b.tree) (numbers_in d) (stmt_small (in_loop around) (opened ls) x b h p.0) (types_small (closed b.locals) c d f.0 p.1))
    stmt_kind_small around ls s (for init c steps x) a (i, g, d, f, es, e, b, h, same) small =
        let p = all_split IsSmall (stmts_numbers init) (optional_numbers c ++ (effects_numbers steps ++ stmt_numbers x)) small in
        let q = all_split IsSmall (optional_numbers c) (effects_numbers steps ++ stmt_numbers x) p.1 in let r = all_split IsSmall (effects_numbers steps) (stmt_numbers x) q.1 in
        subst StmtAfter (sym same)
        (All-append IsSmall (stmts_numbers i.tree) (optional_numbers d ++ (effects_numbers es ++ stmt_numbers b.tree)) (stmts_small around (opened ls) init i g p.0)
        (All-append IsSmall (optional_numbers d) (effects_numbers es ++ stmt_numbers b.tree) (optional_small i.locals c d f q.0)
        (All-append IsSmall (effects_numbers es) (stmt_numbers b.tree) (effects_small i.locals steps es e r.0) (stmt_small (in_loop around) (opened i.locals) x b h r.1))))
    stmt_kind_small around ls s (switch v gs) a (w, f, is, b, vs, h, differ, same) small =
        let p = all_split IsSmall (numbers_in v) (groups_numbers gs) small in
        subst StmtAfter (sym same) (All-append IsSmall (numbers_in w) (groups_numbers b.tree) (types_small ls v w f p.0) (groups_small (in_switch around) (opened ls) (label_type w) gs b vs h p.1))
    stmt_kind_small around ls s break a (may, same) small = subst StmtAfter (sym same) (All-nil IsSmall)
    stmt_kind_small around ls s continue a (may, same) small = subst StmtAfter (sym same) (All-nil IsSmall)
    stmt_kind_small around ls s (return None) a (is, same) small = subst StmtAfter (sym same) (All-nil IsSmall)
    stmt_kind_small around ls s (return (Some r)) a (is, q, h, same) small = subst StmtAfter (sym same) (rhs_small ls around.result r q h small)

    stmts_small : (around : Around) (ls : Locals) (ss : StmtTrees) (a : After StmtTrees) → AreStmtsOf env around ls ss a → All IsSmall (stmts_numbers ss) → All IsSmall (stmts_numbers a.tree)
    stmts_small around ls no_stmt a same small = subst (λ (a : After StmtTrees). All IsSmall (stmts_numbers a.tree)) (sym same) (All-nil IsSmall)
    stmts_small around ls (also_stmt s ss) a (b, h, others, g, same) small =
        let p = all_split IsSmall (stmt_numbers s) (stmts_numbers ss) small in
        subst (λ (a : After StmtTrees). All IsSmall (stmts_numbers a.tree)) (sym same)
        (All-append IsSmall (stmt_numbers b.tree) (stmts_numbers others.tree) (stmt_small around ls s b h p.0) (stmts_small around b.locals ss others g p.1))

    groups_small : (around : Around) (ls : Locals) (t : CInt) (gs : GroupTrees) (a : After GroupTrees) (vs : List (Option ℤ)) → AreGroupsOf env around ls t gs a vs → All IsSmall (groups_numbers gs) → All IsSmall (groups_numbers a.tree)
    groups_small around ls t no_group a vs (same, values) small = subst (λ (a : After GroupTrees). All IsSmall (groups_numbers a.tree)) (sym same) (All-nil IsSmall)
    groups_small around ls t (also_group xs ss gs) a vs (ys, us, f, b, h, others, ws, g, same, values) small =
        let p = all_split IsSmall (labels_numbers xs) (stmts_numbers ss ++ groups_numbers gs) small in let q = all_split IsSmall (stmts_numbers ss) (groups_numbers gs) p.1 in
        subst (λ (a : After GroupTrees). All IsSmall (groups_numbers a.tree)) (sym same)
        (All-append IsSmall (labels_numbers ys) (stmts_numbers b.tree ++ groups_numbers others.tree) (labels_small t xs ys us f p.0)
        (All-append IsSmall (stmts_numbers b.tree) (groups_numbers others.tree) (stmts_small around ls ss b h q.0) (groups_small around b.locals t gs others ws g q.1)))

  -- the parameters belong to the block of the body
  body_small : (around : Around) (ls : Locals) (s : StmtTree) (a : After StmtTree) → IsBodyOf env around ls s a → All IsSmall (stmt_numbers s) → StmtAfter a
  body_small around ls (stmt s (block ss)) a (b, h, same) small = subst StmtAfter (sym same) (stmts_small around ls ss b h small)
  body_small around ls x a h small = stmt_small around ls x a h small

pub typed_is_small : TypedIsSmall
typed_is_small env f t few small (ls, params, b, h, same) = record {
  declared = few;
  body = subst (λ (t : TypedTree). All IsSmall (stmt_numbers t.body)) (sym same) (body_small env few (around_body f.sig) ls f.body b h small);
}
