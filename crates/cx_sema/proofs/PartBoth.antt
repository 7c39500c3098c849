-- The walk gives calls, values and effects their types exactly where the rules do.
use Rattle.std.proofs.Common.{◌≡◌, ℕ, Bool, true, false, List, [], ◌∷◌, length, Option, None, Some, refl, ap, sym, ◌∙◌, subst}
use Rattle.std.specs.Prelude.{Ok, is_some, not, ◌&&◌, ◌||◌, ◌==◌, if◌then◌else◌}
use Rattle.std.specs.List.{list_all}
use Rattle.cx_base.specs.declared.span.Span.{Span}
use Rattle.cx_ctree.specs.Types.{TypeTree}
use Rattle.cx_ctree.specs.Exprs.{ExprTree, span_of, type_of, CallTree, RhsTree, value, call, EffectTree, set, update, call_alone, value_alone}
use Rattle.cx_cname.specs.Known.{Meaning, a_type, a_constant, an_object, a_function}
use Rattle.cx_ctype.specs.Operations.{value_type, is_scalar, cast_type, is_updatable, is_movable}
use Rattle.cx_sname.specs.File.{Declared, meaning_of}
use Rattle.cx_scope.specs.Locals.{Locals}
use Rattle.cx_snode.specs.Judging.{Judged, breaks, judged_all, ◌>>=◌}
use Rattle.cx_snode.specs.Nodes.{value_of}
use Rattle.cx_snode.proofs.Judged.{parts_of, ok_same, gives_then, judged_as}
use Rattle.cx_sexpr.specs.Typing.{typed}
use Rattle.cx_seffect.specs.Calls.{Taken, TypedCall, is_void, fits_in, assigned, taken_value, is_callable, first_misfit, passed, call_of, typed_call, called, typed_rhs}
use Rattle.cx_seffect.specs.Effects.{is_place, set_node, update_node, alone, cast_to_void, cast_away, alone_by, typed_alone, typed_effect, typed_effects, typed_condition, typed_optional}
use Rattle.cx_sema.specs.Kept.{ArePassed}
use Rattle.cx_sema.specs.ExprRules.{HasTypes}
use Rattle.cx_sema.specs.PartRules.{HaveTypes, IsCallOf, IsRhsOf, IsAloneOf, IsEffectOf, AreEffectsOf, IsConditionOf, IsOptionalOf}
use Rattle.cx_sema.proofs.ExprBoth.{has_types, types_are}
use Rattle.cx_sema.proofs.Holding.{tested, all_passed, passed_is, assigned_is, same_length, first_of_three, alone_is}

-- where the test of what is judged is true
pub test_then : {A : Type 0} (b : Bool) (j : Judged A) (s : Span) (n : ℕ) → b ≡ true → (if b then j else breaks s n) ≡ j
test_then true j s n h = refl
test_then false j s n h = absurd cc

-- ---- calls

all_have : (env : Declared) (ls : Locals) (xs ys : List ExprTree) → judged_all (typed env ls) xs ≡ Ok ys → HaveTypes env ls xs ys
all_have env ls [] ys h = sym (ok_same [] ys h)
all_have env ls (x ∷ xs) ys h =
    let a = parts_of (typed env ls x) (λ a. judged_all (typed env ls) xs >>= (λ done. Ok (a ∷ done))) ys h in
    let b = parts_of (judged_all (typed env ls) xs) (λ done. Ok (a.0 ∷ done)) ys a.2 in
    (a.0, has_types env ls x a.0 a.1, b.0, all_have env ls xs b.0 b.1, sym (ok_same (a.0 ∷ b.0) ys b.2))

all_are : (env : Declared) (ls : Locals) (xs ys : List ExprTree) → HaveTypes env ls xs ys → judged_all (typed env ls) xs ≡ Ok ys
all_are env ls [] ys h = ap judged_as (sym h)
all_are env ls (x ∷ xs) ys h =
    gives_then (typed env ls x) h.0 (λ a. judged_all (typed env ls) xs >>= (λ done. Ok (a ∷ done))) (types_are env ls x h.0 h.1)
    ∙ gives_then (judged_all (typed env ls) xs) h.2 (λ done. Ok (h.0 ∷ done)) (all_are env ls xs h.2 h.3)
    ∙ ap judged_as (sym h.4)

none_misfits : (env : Declared) (xs : List ExprTree) (ts : List TypeTree) → ArePassed env xs ts → first_misfit env xs ts ≡ None
none_misfits env [] [] h = refl
none_misfits env [] (t ∷ ts) h = absurd h
none_misfits env (x ∷ xs) [] h = absurd h
none_misfits env (x ∷ xs) (t ∷ ts) h = ap (λ b. if b then first_misfit env xs ts else Some x) h.0 ∙ none_misfits env xs ts h.1

meant_call : (env : Declared) (taken : Bool) (c : CallTree) (m : Option Meaning) (d : TypedCall) → call_of env taken c m ≡ Ok d
    → (ps : List TypeTree) × (m ≡ Some (a_function d.ctype ps)) × (is_callable taken (length c.args) d.ctype ps ≡ true) × ArePassed env c.args ps × (d.tree ≡ c)
meant_call env taken c None d h = absurd cc
meant_call env taken c (Some (a_type t)) d h = absurd cc
meant_call env taken c (Some (a_constant v)) d h = absurd cc
meant_call env taken c (Some (an_object t)) d h = absurd cc
meant_call env taken c (Some (a_function r ps)) d h =
    let whole : TypedCall = record { tree = c; ctype = r } in
    let p = tested (is_callable taken (length c.args) r ps) (passed whole (first_misfit env c.args ps)) c.span 8 d h in
    let q = passed_is whole (first_misfit env c.args ps) d p.1 in
    let n = first_of_three (length ps == length c.args) (list_all is_scalar ps) (is_scalar r || (not taken && is_void r)) p.0 in
    let type_is : r ≡ d.ctype = ap (λ (d : TypedCall). d.ctype) q.1 in
    (ps, ap (λ t. Some (a_function t ps)) type_is, subst (λ t. is_callable taken (length c.args) t ps ≡ true) type_is p.0, all_passed env c.args ps (same_length (length ps) (length c.args) n) q.0, ap (λ (d : TypedCall). d.tree) (sym q.1))

pub call_has : (env : Declared) (ls : Locals) (taken : Bool) (c : CallTree) (d : TypedCall) → typed_call env ls taken c ≡ Ok d → IsCallOf env ls taken c d.tree d.ctype
call_has env ls taken c d h =
    let a = parts_of (judged_all (typed env ls) c.args) (λ args. call_of env taken (record c { args = args }) (meaning_of env c.name)) d h in
    let m = meant_call env taken (record c { args = a.0 }) (meaning_of env c.name) d a.2 in
    (a.0, all_have env ls c.args a.0 a.1, m.0, m.1, m.2, m.3, m.4)

passes : (whole : TypedCall) (o : Option ExprTree) → o ≡ None → passed whole o ≡ Ok whole
passes whole None h = refl
passes whole (Some x) h = absurd cc

pub call_is : (env : Declared) (ls : Locals) (taken : Bool) (c d : CallTree) (r : TypeTree) → IsCallOf env ls taken c d r → typed_call env ls taken c ≡ Ok (record { tree = d; ctype = r })
call_is env ls taken c d r h =
    let e : CallTree = record c { args = h.0 } in
    let whole : TypedCall = record { tree = e; ctype = r } in
    gives_then (judged_all (typed env ls) c.args) h.0 (λ args. call_of env taken (record c { args = args }) (meaning_of env c.name)) (all_are env ls c.args h.0 h.1)
    ∙ ap (call_of env taken e) h.3
    ∙ test_then (is_callable taken (length h.0) r h.2) (passed whole (first_misfit env h.0 h.2)) c.span 8 h.4
    ∙ passes whole (first_misfit env h.0 h.2) (none_misfits env h.0 h.2 h.5)
    ∙ ap (λ (t : CallTree). let w : TypedCall = record { tree = t; ctype = r } in judged_as w) (sym h.6)

-- ---- values that are taken

called_has : (env : Declared) (ls : Locals) (c : CallTree) (d : TypedCall) (w : Option TypeTree) (v : Taken) (t : TypeTree) (r : RhsTree)
    → IsCallOf env ls true c d.tree d.ctype → called c.span d w ≡ Ok v → assigned t v ≡ Ok r → IsRhsOf env ls t (call c w) r
called_has env ls c d None v t r k h a =
    let whole : Taken = record { tree = call d.tree None; ctype = d.ctype; zero = false; span = c.span } in
    let p = assigned_is t whole r (subst (λ (v : Taken). assigned t v ≡ Ok r) (sym (ok_same whole v h)) a) in
    (d.tree, d.ctype, k, p.0, sym p.1)
called_has env ls c d (Some w) v t r k h a =
    let whole : Taken = record { tree = call d.tree (Some w); ctype = w; zero = false; span = c.span } in
    let q = tested (is_some (cast_type w (value_type d.ctype))) (Ok whole) c.span 7 v h in
    let p = assigned_is t whole r (subst (λ (v : Taken). assigned t v ≡ Ok r) (sym (ok_same whole v q.1)) a) in
    (d.tree, d.ctype, k, q.0, p.0, sym p.1)

pub rhs_has : (env : Declared) (ls : Locals) (t : TypeTree) (r : RhsTree) (v : Taken) (x : RhsTree) → typed_rhs env ls r ≡ Ok v → assigned t v ≡ Ok x → IsRhsOf env ls t r x
rhs_has env ls t (value y) v x h a =
    let b = parts_of (typed env ls y) (λ b. Ok (taken_value env b)) v h in
    let p = assigned_is t (taken_value env b.0) x (subst (λ (v : Taken). assigned t v ≡ Ok x) (sym (ok_same (taken_value env b.0) v b.2)) a) in
    (b.0, has_types env ls y b.0 b.1, p.0, sym p.1)
rhs_has env ls t (call c w) v x h a =
    let d = parts_of (typed_call env ls true c) (λ d. called c.span d w) v h in
    called_has env ls c d.0 w v t x (call_has env ls true c d.0 d.1) d.2 a

-- a value that is taken, and what an object of the type takes of it
pub rhs_is : (env : Declared) (ls : Locals) (t : TypeTree) (r x : RhsTree) → IsRhsOf env ls t r x → (v : Taken) × (typed_rhs env ls r ≡ Ok v) × (assigned t v ≡ Ok x)
rhs_is env ls t (value y) x h = (
  taken_value env h.0,
  gives_then (typed env ls y) h.0 (λ b. Ok (taken_value env b)) (types_are env ls y h.0 h.1),
  test_then (fits_in t (taken_value env h.0)) (Ok (value h.0)) (span_of h.0) 7 h.2 ∙ ap judged_as (sym h.3),
)
rhs_is env ls t (call c None) x h =
    let d : TypedCall = record { tree = h.0; ctype = h.1 } in
    let v : Taken = record { tree = call h.0 None; ctype = h.1; zero = false; span = c.span } in (
      v,
      gives_then (typed_call env ls true c) d (λ d. called c.span d None) (call_is env ls true c h.0 h.1 h.2),
      test_then (fits_in t v) (Ok (call h.0 None)) c.span 7 h.3 ∙ ap judged_as (sym h.4),
    )
rhs_is env ls t (call c (Some w)) x h =
    let d : TypedCall = record { tree = h.0; ctype = h.1 } in
    let v : Taken = record { tree = call h.0 (Some w); ctype = w; zero = false; span = c.span } in (
      v,
      gives_then (typed_call env ls true c) d (λ d. called c.span d (Some w)) (call_is env ls true c h.0 h.1 h.2) ∙ test_then (is_some (cast_type w (value_type h.1))) (Ok v) c.span 7 h.3,
      test_then (fits_in t v) (Ok (call h.0 (Some w))) c.span 7 h.4 ∙ ap judged_as (sym h.5),
    )

-- ---- effects

alone_has : (env : Declared) (ls : Locals) (x : ExprTree) (o : Option ExprTree) (y : ExprTree) → alone_by env ls x o ≡ Ok y → IsAloneOf env ls x o y
alone_has env ls x None y h =
    let a = parts_of (typed env ls x) alone y h in
    let p = alone_is a.0 y a.2 in
    (subst (HasTypes env ls x) p.1 (has_types env ls x a.0 a.1), subst (λ (z : ExprTree). is_scalar (value_of z) ≡ true) p.1 p.0)
alone_has env ls x (Some z) y h =
    let a = parts_of (typed env ls z) (λ b. alone b >>= (λ c. Ok (cast_to_void (span_of x) c))) y h in
    let b = parts_of (alone a.0) (λ c. Ok (cast_to_void (span_of x) c)) y a.2 in
    let p = alone_is a.0 b.0 b.1 in
    (a.0, has_types env ls z a.0 a.1, p.0, sym (ok_same (cast_to_void (span_of x) b.0) y b.2) ∙ ap (cast_to_void (span_of x)) (sym p.1))

alone_then : (x : ExprTree) → is_scalar (value_of x) ≡ true → alone x ≡ Ok x
alone_then x h = test_then (is_scalar (value_of x)) (Ok x) (span_of x) 18 h

alone_are : (env : Declared) (ls : Locals) (x : ExprTree) (o : Option ExprTree) (y : ExprTree) → IsAloneOf env ls x o y → alone_by env ls x o ≡ Ok y
alone_are env ls x None y h = gives_then (typed env ls x) y alone (types_are env ls x y h.0) ∙ alone_then y h.1
alone_are env ls x (Some z) y h =
    gives_then (typed env ls z) h.0 (λ b. alone b >>= (λ c. Ok (cast_to_void (span_of x) c))) (types_are env ls z h.0 h.1)
    ∙ gives_then (alone h.0) h.0 (λ c. Ok (cast_to_void (span_of x) c)) (alone_then h.0 h.2)
    ∙ ap judged_as (sym h.3)

pub effect_has : (env : Declared) (ls : Locals) (e f : EffectTree) → typed_effect env ls e ≡ Ok f → IsEffectOf env ls e f
unfolding typed_effect
effect_has env ls (set l r s) f h =
    let a = parts_of (typed env ls l) (λ a. typed_rhs env ls r >>= set_node s a) f h in
    let v = parts_of (typed_rhs env ls r) (set_node s a.0) f a.2 in
    let p = tested (is_place a.0) (assigned (type_of a.0) v.0 >>= (λ r. Ok (set a.0 r s))) s 6 f v.2 in
    let x = parts_of (assigned (type_of a.0) v.0) (λ r. Ok (set a.0 r s)) f p.1 in
    (a.0, has_types env ls l a.0 a.1, p.0, x.0, rhs_has env ls (type_of a.0) r v.0 x.0 v.1 x.1, sym (ok_same (set a.0 x.0 s) f x.2))
effect_has env ls (update op l x s) f h =
    let a = parts_of (typed env ls l) (λ a. typed env ls x >>= update_node env s op a) f h in
    let b = parts_of (typed env ls x) (update_node env s op a.0) f a.2 in
    let p = tested (is_place a.0) _ s 6 f b.2 in
    let q = tested (is_updatable op (value_of a.0) (value_of b.0)) _ s 16 f p.1 in
    let m = tested (is_movable env.known (value_of a.0)) (Ok (update op a.0 b.0 s)) s 19 f q.1 in
    (a.0, has_types env ls l a.0 a.1, b.0, has_types env ls x b.0 b.1, p.0, q.0, m.0, sym (ok_same (update op a.0 b.0 s) f m.1))
effect_has env ls (call_alone c) f h =
    let d = parts_of (typed_call env ls false c) (λ d. Ok (call_alone d.tree)) f h in
    (d.0.tree, d.0.ctype, call_has env ls false c d.0 d.1, sym (ok_same (call_alone d.0.tree) f d.2))
effect_has env ls (value_alone x) f h =
    let a = parts_of (typed_alone env ls x) (λ a. Ok (value_alone a)) f h in
    (a.0, alone_has env ls x (cast_away x) a.0 a.1, sym (ok_same (value_alone a.0) f a.2))

pub effect_is : (env : Declared) (ls : Locals) (e f : EffectTree) → IsEffectOf env ls e f → typed_effect env ls e ≡ Ok f
unfolding typed_effect
effect_is env ls (set l r s) f h =
    let v = rhs_is env ls (type_of h.0) r h.3 h.4 in
    gives_then (typed env ls l) h.0 (λ a. typed_rhs env ls r >>= set_node s a) (types_are env ls l h.0 h.1)
    ∙ gives_then (typed_rhs env ls r) v.0 (set_node s h.0) v.1
    ∙ test_then (is_place h.0) (assigned (type_of h.0) v.0 >>= (λ r. Ok (set h.0 r s))) s 6 h.2
    ∙ gives_then (assigned (type_of h.0) v.0) h.3 (λ r. Ok (set h.0 r s)) v.2
    ∙ ap judged_as (sym h.5)
effect_is env ls (update op l x s) f h =
    let whole : Judged EffectTree = Ok (update op h.0 h.2 s) in
    gives_then (typed env ls l) h.0 (λ a. typed env ls x >>= update_node env s op a) (types_are env ls l h.0 h.1)
    ∙ gives_then (typed env ls x) h.2 (update_node env s op h.0) (types_are env ls x h.2 h.3)
    ∙ test_then (is_place h.0) (if is_updatable op (value_of h.0) (value_of h.2) then (if is_movable env.known (value_of h.0) then whole else breaks s 19) else breaks s 16) s 6 h.4
    ∙ test_then (is_updatable op (value_of h.0) (value_of h.2)) (if is_movable env.known (value_of h.0) then whole else breaks s 19) s 16 h.5
    ∙ test_then (is_movable env.known (value_of h.0)) whole s 19 h.6
    ∙ ap judged_as (sym h.7)
effect_is env ls (call_alone c) f h =
    gives_then (typed_call env ls false c) (record { tree = h.0; ctype = h.1 }) (λ d. Ok (call_alone d.tree)) (call_is env ls false c h.0 h.1 h.2) ∙ ap judged_as (sym h.3)
effect_is env ls (value_alone x) f h =
    gives_then (typed_alone env ls x) h.0 (λ a. Ok (value_alone a)) (alone_are env ls x (cast_away x) h.0 h.1) ∙ ap judged_as (sym h.2)

pub effects_have : (env : Declared) (ls : Locals) (es fs : List EffectTree) → typed_effects env ls es ≡ Ok fs → AreEffectsOf env ls es fs
effects_have env ls [] fs h = sym (ok_same [] fs h)
effects_have env ls (e ∷ es) fs h =
    let a = parts_of (typed_effect env ls e) (λ a. judged_all (typed_effect env ls) es >>= (λ done. Ok (a ∷ done))) fs h in
    let b = parts_of (judged_all (typed_effect env ls) es) (λ done. Ok (a.0 ∷ done)) fs a.2 in
    (a.0, effect_has env ls e a.0 a.1, b.0, effects_have env ls es b.0 b.1, sym (ok_same (a.0 ∷ b.0) fs b.2))

pub effects_are : (env : Declared) (ls : Locals) (es fs : List EffectTree) → AreEffectsOf env ls es fs → typed_effects env ls es ≡ Ok fs
effects_are env ls [] fs h = ap judged_as (sym h)
effects_are env ls (e ∷ es) fs h =
    gives_then (typed_effect env ls e) h.0 (λ a. judged_all (typed_effect env ls) es >>= (λ done. Ok (a ∷ done))) (effect_is env ls e h.0 h.1)
    ∙ gives_then (judged_all (typed_effect env ls) es) h.2 (λ done. Ok (h.0 ∷ done)) (effects_are env ls es h.2 h.3)
    ∙ ap judged_as (sym h.4)

-- ---- parts of statements

pub condition_has : (env : Declared) (ls : Locals) (x y : ExprTree) → typed_condition env ls x ≡ Ok y → IsConditionOf env ls x y
condition_has env ls x y h =
    let a = parts_of (typed env ls x) (λ a. if is_scalar (value_of a) then Ok a else breaks (span_of a) 14) y h in
    let p = tested (is_scalar (value_of a.0)) (Ok a.0) (span_of a.0) 14 y a.2 in
    let e = ok_same a.0 y p.1 in
    (subst (HasTypes env ls x) e (has_types env ls x a.0 a.1), subst (λ (z : ExprTree). is_scalar (value_of z) ≡ true) e p.0)

pub condition_is : (env : Declared) (ls : Locals) (x y : ExprTree) → IsConditionOf env ls x y → typed_condition env ls x ≡ Ok y
condition_is env ls x y h =
    gives_then (typed env ls x) y (λ a. if is_scalar (value_of a) then Ok a else breaks (span_of a) 14) (types_are env ls x y h.0)
    ∙ test_then (is_scalar (value_of y)) (Ok y) (span_of y) 14 h.1

pub optional_has : (env : Declared) (ls : Locals) (x y : Option ExprTree) → typed_optional env ls x ≡ Ok y → IsOptionalOf env ls x y
optional_has env ls None y h = sym (ok_same None y h)
optional_has env ls (Some x) y h =
    let a = parts_of (typed_condition env ls x) (λ a. Ok (Some a)) y h in
    (a.0, condition_has env ls x a.0 a.1, sym (ok_same (Some a.0) y a.2))

pub optional_is : (env : Declared) (ls : Locals) (x y : Option ExprTree) → IsOptionalOf env ls x y → typed_optional env ls x ≡ Ok y
optional_is env ls None y h = ap judged_as (sym h)
optional_is env ls (Some x) y h = gives_then (typed_condition env ls x) h.0 (λ a. Ok (Some a)) (condition_is env ls x h.0 h.1) ∙ ap judged_as (sym h.2)
