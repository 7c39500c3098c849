-- A function that is given its types keeps the rules on types in each part.
use Rattle.std.proofs.Common.{◌≡◌, ℕ, zero, Bool, true, false, List, [], ◌∷◌, ◌++◌, length, Option, None, Some, refl, ap, sym, ◌∙◌, subst, append_assoc, append-nil, arith, inl, inr}
use Rattle.std.specs.Prelude.{Ok, slice_get, ◌&&◌, ◌||◌, not, ◌==◌, is_some, if◌then◌else◌}
use Rattle.std.specs.List.{list_all}
use Rattle.std.proofs.lemmas.Bool.Decides.{nat_tests}
use Rattle.cx_base.specs.declared.span.Span.{Span}
use Rattle.cx_base.specs.declared.number.CInt.{CInt}
use Rattle.cx_base.proofs.General.{both_true, true_both}
use Rattle.cx_ctree.specs.Types.{TypeTree}
use Rattle.cx_ctree.specs.Exprs.{ExprTree, span_of, type_of, CallTree, RhsTree, value, call, EffectTree, set, update, call_alone, value_alone}
use Rattle.cx_ctree.specs.Stmts.{StmtTree, stmt, StmtKindTree, block, empty, effect, declare, if_alone, if_else, while, do_while, for, switch, break, continue, return, StmtTrees, no_stmt, also_stmt, GroupTrees, no_group, also_group}
use Rattle.cx_cconst.specs.Constants.{constant_in}
use Rattle.cx_cname.specs.Known.{Meaning, a_type, a_constant, an_object, a_function}
use Rattle.cx_ctype.specs.Operations.{value_type, is_int, is_scalar, is_zero, cast_type, is_assignable, is_updatable, is_movable}
use Rattle.cx_sname.specs.File.{Declared, meaning_of}
use Rattle.cx_scope.specs.Locals.{Block, Locals, no_locals, declared, is_new, opened, closed, left_to}
use Rattle.cx_snode.specs.Judging.{Judged, breaks, judged_all, ◌>>=◌}
use Rattle.cx_snode.specs.Nodes.{value_of}
use Rattle.cx_snode.proofs.Judged.{parts_of, ok_same}
use Rattle.cx_sexpr.specs.Typing.{typed}
use Rattle.cx_sexpr.specs.Kept.{IsTyped}
use Rattle.cx_sexpr.proofs.Keeping.{typed_keeps}
use Rattle.cx_seffect.specs.Calls.{Taken, TypedCall, is_void, fits_in, assigned, taken_value, is_callable, first_misfit, passed, call_of, typed_call, called, typed_rhs}
use Rattle.cx_seffect.specs.Effects.{is_place, set_node, update_node, alone, cast_to_void, cast_away, alone_by, typed_alone, typed_effect, typed_effects, typed_condition, typed_optional}
use Rattle.cx_sstmt.specs.Labels.{Seen, Labelled, none_seen, case_seen, default_seen, after_label, typed_labels}
use Rattle.cx_sstmt.specs.Stmts as walk
use Rattle.cx_sstmt.specs.Stmts.{Around, in_loop, in_switch, After, gives, is_variable, initialised, variable_by, typed_variable, returned, typed_return, typed_jump, switched, label_type, staying, leaving, typed_stmt, typed_stmt_kind, typed_stmts, typed_groups}
use Rattle.cx_sema.specs.Kept.{AreTyped, ArePassed, IsTypedCall, IsTypedRhs, IsTypedAlone, IsTypedEffect, AreTypedEffects, IsTypedCondition, IsTypedOptional, AreTypedLabels, IsTypedStmt, IsTypedKind, AreTypedStmts, AreTypedGroups}
use Rattle.cx_sema.proofs.Lasting.{expr_lasts, effects_last, condition_lasts, optional_lasts, stmt_lasts, stmts_last}

-- ---- tests

-- where a test stands before what is judged
pub tested : {A : Type 0} (b : Bool) (j : Judged A) (s : Span) (n : ℕ) (y : A) → (if b then j else breaks s n) ≡ Ok y → (b ≡ true) × (j ≡ Ok y)
tested true j s n y h = (refl, h)
tested false j s n y h = absurd cc

pub first_of_three : (a b c : Bool) → (a && b && c) ≡ true → a ≡ true
first_of_three true b c h = refl
first_of_three false b c h = h

pub same_length : (n m : ℕ) → (n == m) ≡ true → n ≡ m
same_length n m h = grind (arith, nat_tests, h)

-- ---- calls and values

args_hold : (env : Declared) (ls : Locals) (xs ys : List ExprTree) → judged_all (typed env ls) xs ≡ Ok ys → AreTyped env ls.types ys
args_hold env ls [] ys h = subst (AreTyped env ls.types) (ok_same [] ys h) tt
args_hold env ls (x ∷ xs) ys h =
    let a = parts_of (typed env ls x) (λ a. judged_all (typed env ls) xs >>= (λ done. Ok (a ∷ done))) ys h in
    let b = parts_of (judged_all (typed env ls) xs) (λ done. Ok (a.0 ∷ done)) ys a.2 in
    subst (AreTyped env ls.types) (ok_same (a.0 ∷ b.0) ys b.2) (typed_keeps env ls x a.0 a.1, args_hold env ls xs b.0 b.1)

none_left : (b : Bool) (o : Option ExprTree) (x : ExprTree) → (if b then o else Some x) ≡ None → (b ≡ true) × (o ≡ None)
none_left true o x h = (refl, h)
none_left false o x h = absurd cc

pub all_passed : (env : Declared) (xs : List ExprTree) (ts : List TypeTree) → length ts ≡ length xs → first_misfit env xs ts ≡ None → ArePassed env xs ts
all_passed env [] [] e h = tt
all_passed env [] (t ∷ ts) e h = absurd (omega (arith, e))
all_passed env (x ∷ xs) [] e h = absurd (omega (arith, e))
all_passed env (x ∷ xs) (t ∷ ts) e h =
    let p = none_left (is_assignable (is_zero env.known x) (value_of x) t) (first_misfit env xs ts) x h in
    (p.0, all_passed env xs ts (omega (arith, e)) p.1)

pub passed_is : {A : Type 0} (c : A) (o : Option ExprTree) (d : A) → passed c o ≡ Ok d → (o ≡ None) × (c ≡ d)
passed_is c None d h = (refl, ok_same c d h)
passed_is c (Some x) d h = absurd cc

call_of_holds : (env : Declared) (ts : List TypeTree) (taken : Bool) (c : CallTree) (m : Option Meaning) (d : TypedCall) → meaning_of env c.name ≡ m → AreTyped env ts c.args → call_of env taken c m ≡ Ok d
    → IsTypedCall env ts taken d.tree d.ctype
call_of_holds env ts taken c None d e k h = absurd cc
call_of_holds env ts taken c (Some (a_type t)) d e k h = absurd cc
call_of_holds env ts taken c (Some (a_constant v)) d e k h = absurd cc
call_of_holds env ts taken c (Some (an_object t)) d e k h = absurd cc
call_of_holds env ts taken c (Some (a_function r ps)) d e k h =
    let whole : TypedCall = record { tree = c; ctype = r } in
    let p = tested (is_callable taken (length c.args) r ps) (passed whole (first_misfit env c.args ps)) c.span 8 d h in
    let q = passed_is whole (first_misfit env c.args ps) d p.1 in
    let n = first_of_three (length ps == length c.args) (list_all is_scalar ps) (is_scalar r || (not taken && is_void r)) p.0 in
    subst (λ (d : TypedCall). IsTypedCall env ts taken d.tree d.ctype) q.1 (k, ps, e, p.0, all_passed env c.args ps (same_length (length ps) (length c.args) n) q.0)

call_holds : (env : Declared) (ls : Locals) (taken : Bool) (c : CallTree) (d : TypedCall) → typed_call env ls taken c ≡ Ok d → IsTypedCall env ls.types taken d.tree d.ctype
call_holds env ls taken c d h =
    let a = parts_of (judged_all (typed env ls) c.args) (λ args. call_of env taken (record c { args = args }) (meaning_of env c.name)) d h in
    call_of_holds env ls.types taken (record c { args = a.0 }) (meaning_of env c.name) d refl (args_hold env ls c.args a.0 a.1) a.2

pub assigned_is : (t : TypeTree) (v : Taken) (r : RhsTree) → assigned t v ≡ Ok r → (fits_in t v ≡ true) × (v.tree ≡ r)
assigned_is t v r h =
    let p = tested (fits_in t v) (Ok v.tree) v.span 7 r h in
    (p.0, ok_same v.tree r p.1)

called_holds : (env : Declared) (ts : List TypeTree) (s : Span) (d : TypedCall) (w : Option TypeTree) (v : Taken) (t : TypeTree) (r : RhsTree)
    → IsTypedCall env ts true d.tree d.ctype → called s d w ≡ Ok v → assigned t v ≡ Ok r → IsTypedRhs env ts t r
called_holds env ts s d None v t r k h a =
    let whole : Taken = record { tree = call d.tree None; ctype = d.ctype; zero = false; span = s } in
    let p = assigned_is t whole r (subst (λ (v : Taken). assigned t v ≡ Ok r) (sym (ok_same whole v h)) a) in
    subst (IsTypedRhs env ts t) p.1 (d.ctype, k, p.0)
called_holds env ts s d (Some w) v t r k h a =
    let whole : Taken = record { tree = call d.tree (Some w); ctype = w; zero = false; span = s } in
    let q = tested (is_some (cast_type w (value_type d.ctype))) (Ok whole) s 7 v h in
    let p = assigned_is t whole r (subst (λ (v : Taken). assigned t v ≡ Ok r) (sym (ok_same whole v q.1)) a) in
    subst (IsTypedRhs env ts t) p.1 (d.ctype, k, q.0, p.0)

rhs_holds : (env : Declared) (ls : Locals) (t : TypeTree) (r : RhsTree) (v : Taken) (x : RhsTree) → typed_rhs env ls r ≡ Ok v → assigned t v ≡ Ok x → IsTypedRhs env ls.types t x
rhs_holds env ls t (value y) v x h a =
    let b = parts_of (typed env ls y) (λ b. Ok (taken_value env b)) v h in
    let p = assigned_is t (taken_value env b.0) x (subst (λ (v : Taken). assigned t v ≡ Ok x) (sym (ok_same (taken_value env b.0) v b.2)) a) in
    subst (IsTypedRhs env ls.types t) p.1 (typed_keeps env ls y b.0 b.1, p.0)
rhs_holds env ls t (call c w) v x h a =
    let d = parts_of (typed_call env ls true c) (λ d. called c.span d w) v h in
    called_holds env ls.types c.span d.0 w v t x (call_holds env ls true c d.0 d.1) d.2 a

-- ---- effects

pub alone_is : (x y : ExprTree) → alone x ≡ Ok y → (is_scalar (value_of x) ≡ true) × (x ≡ y)
alone_is x y h =
    let p = tested (is_scalar (value_of x)) (Ok x) (span_of x) 18 y h in
    (p.0, ok_same x y p.1)

alone_holds : (env : Declared) (ls : Locals) (x : ExprTree) (o : Option ExprTree) (y : ExprTree) → alone_by env ls x o ≡ Ok y → IsTypedAlone env ls.types y
alone_holds env ls x None y h =
    let a = parts_of (typed env ls x) alone y h in
    let p = alone_is a.0 y a.2 in
    subst (IsTypedAlone env ls.types) p.1 (inl (typed_keeps env ls x a.0 a.1, p.0))
alone_holds env ls x (Some z) y h =
    let a = parts_of (typed env ls z) (λ b. alone b >>= (λ c. Ok (cast_to_void (span_of x) c))) y h in
    let b = parts_of (alone a.0) (λ c. Ok (cast_to_void (span_of x) c)) y a.2 in
    let p = alone_is a.0 b.0 b.1 in
    let scalar : is_scalar (value_of b.0) ≡ true = subst (λ (c : ExprTree). is_scalar (value_of c) ≡ true) p.1 p.0 in
    let keeps : IsTyped env ls.types b.0 = subst (IsTyped env ls.types) p.1 (typed_keeps env ls z a.0 a.1) in
    subst (IsTypedAlone env ls.types) (ok_same (cast_to_void (span_of x) b.0) y b.2) (inr (b.0, refl, keeps, scalar))

set_holds : (env : Declared) (ls : Locals) (s : Span) (l : ExprTree) (r : RhsTree) (v : Taken) (f : EffectTree) → IsTyped env ls.types l → typed_rhs env ls r ≡ Ok v → set_node s l v ≡ Ok f → IsTypedEffect env ls.types f
set_holds env ls s l r v f k e h =
    let p = tested (is_place l) (assigned (type_of l) v >>= (λ r. Ok (set l r s))) s 6 f h in
    let a = parts_of (assigned (type_of l) v) (λ r. Ok (set l r s)) f p.1 in
    subst (IsTypedEffect env ls.types) (ok_same (set l a.0 s) f a.2) (k, p.0, rhs_holds env ls (type_of l) r v a.0 e a.1)

pub effect_holds : (env : Declared) (ls : Locals) (e f : EffectTree) → typed_effect env ls e ≡ Ok f → IsTypedEffect env ls.types f
unfolding typed_effect
effect_holds env ls (set l r s) f h =
    let a = parts_of (typed env ls l) (λ a. typed_rhs env ls r >>= set_node s a) f h in
    let v = parts_of (typed_rhs env ls r) (set_node s a.0) f a.2 in
    set_holds env ls s a.0 r v.0 f (typed_keeps env ls l a.0 a.1) v.1 v.2
effect_holds env ls (update op l x s) f h =
    let a = parts_of (typed env ls l) (λ a. typed env ls x >>= update_node env s op a) f h in
    let b = parts_of (typed env ls x) (update_node env s op a.0) f a.2 in
    let p = tested (is_place a.0) _ s 6 f b.2 in
    let q = tested (is_updatable op (value_of a.0) (value_of b.0)) _ s 16 f p.1 in
    let m = tested (is_movable env.known (value_of a.0)) (Ok (update op a.0 b.0 s)) s 19 f q.1 in
    subst (IsTypedEffect env ls.types) (ok_same (update op a.0 b.0 s) f m.1) (typed_keeps env ls l a.0 a.1, typed_keeps env ls x b.0 b.1, p.0, q.0, m.0)
effect_holds env ls (call_alone c) f h =
    let d = parts_of (typed_call env ls false c) (λ d. Ok (call_alone d.tree)) f h in
    subst (IsTypedEffect env ls.types) (ok_same (call_alone d.0.tree) f d.2) (d.0.ctype, call_holds env ls false c d.0 d.1)
effect_holds env ls (value_alone x) f h =
    let a = parts_of (typed_alone env ls x) (λ a. Ok (value_alone a)) f h in
    subst (IsTypedEffect env ls.types) (ok_same (value_alone a.0) f a.2) (alone_holds env ls x (cast_away x) a.0 a.1)

effects_hold : (env : Declared) (ls : Locals) (es fs : List EffectTree) → typed_effects env ls es ≡ Ok fs → AreTypedEffects env ls.types fs
effects_hold env ls [] fs h = subst (AreTypedEffects env ls.types) (ok_same [] fs h) tt
effects_hold env ls (e ∷ es) fs h =
    let a = parts_of (typed_effect env ls e) (λ a. judged_all (typed_effect env ls) es >>= (λ done. Ok (a ∷ done))) fs h in
    let b = parts_of (judged_all (typed_effect env ls) es) (λ done. Ok (a.0 ∷ done)) fs a.2 in
    subst (AreTypedEffects env ls.types) (ok_same (a.0 ∷ b.0) fs b.2) (effect_holds env ls e a.0 a.1, effects_hold env ls es b.0 b.1)

condition_holds : (env : Declared) (ls : Locals) (x y : ExprTree) → typed_condition env ls x ≡ Ok y → IsTypedCondition env ls.types y
condition_holds env ls x y h =
    let a = parts_of (typed env ls x) (λ a. if is_scalar (value_of a) then Ok a else breaks (span_of a) 14) y h in
    let p = tested (is_scalar (value_of a.0)) (Ok a.0) (span_of a.0) 14 y a.2 in
    subst (IsTypedCondition env ls.types) (ok_same a.0 y p.1) (typed_keeps env ls x a.0 a.1, p.0)

optional_holds : (env : Declared) (ls : Locals) (x y : Option ExprTree) → typed_optional env ls x ≡ Ok y → IsTypedOptional env ls.types y
optional_holds env ls None y h = subst (IsTypedOptional env ls.types) (ok_same None y h) tt
optional_holds env ls (Some x) y h =
    let a = parts_of (typed_condition env ls x) (λ a. Ok (Some a)) y h in
    subst (IsTypedOptional env ls.types) (ok_same (Some a.0) y a.2) (condition_holds env ls x a.0 a.1)

-- ---- labels

labels_hold : (env : Declared) (t : CInt) (s : Span) (seen : Seen) (xs : List (Option ExprTree)) (l : Labelled) → typed_labels env t s seen xs ≡ Ok l → AreTypedLabels env l.labels
labels_hold env t s seen [] l h = subst (λ (l : Labelled). AreTypedLabels env l.labels) (ok_same (record { labels = []; seen = seen }) l h) tt
labels_hold env t s seen (None ∷ xs) l h =
    let a = parts_of (default_seen s seen) (λ now. typed_labels env t s now xs >>= after_label None) l h in
    let b = parts_of (typed_labels env t s a.0 xs) (after_label None) l a.2 in
    subst (λ (l : Labelled). AreTypedLabels env l.labels) (ok_same (record b.0 { labels = None ∷ b.0.labels }) l b.2) (labels_hold env t s a.0 xs b.0 b.1)
labels_hold env t s seen (Some x ∷ xs) l h =
    let a = parts_of (typed env no_locals x) (λ a. case_seen (span_of x) t seen (constant_in env.known x) >>= (λ now. typed_labels env t s now xs >>= after_label (Some a))) l h in
    let c = parts_of (case_seen (span_of x) t seen (constant_in env.known x)) (λ now. typed_labels env t s now xs >>= after_label (Some a.0)) l a.2 in
    let b = parts_of (typed_labels env t s c.0 xs) (after_label (Some a.0)) l c.2 in
    subst (λ (l : Labelled). AreTypedLabels env l.labels) (ok_same (record b.0 { labels = Some a.0 ∷ b.0.labels }) l b.2) (typed_keeps env no_locals x a.0 a.1, labels_hold env t s c.0 xs b.0 b.1)

-- ---- more locals

-- there are these scalar locals more
abbrev pub Grows : (before after : List TypeTree) → Type 0
Grows before after = (more : List TypeTree) × (after ≡ before ++ more) × (list_all is_scalar more ≡ true)

pub all_both : (ts ws : List TypeTree) → list_all is_scalar ts ≡ true → list_all is_scalar ws ≡ true → list_all is_scalar (ts ++ ws) ≡ true
all_both [] ws h k = k
all_both (t ∷ ts) ws h k =
    let p = both_true (is_scalar t) (list_all is_scalar ts) h in
    true_both (is_scalar t) (list_all is_scalar (ts ++ ws)) p.0 (all_both ts ws p.1 k)

pub grows_none : (ts : List TypeTree) → Grows ts ts
grows_none ts = ([], sym (append-nil ts), refl)

pub grows_both : (ts ws vs : List TypeTree) → Grows ts ws → Grows ws vs → Grows ts vs
grows_both ts ws vs g h = (g.0 ++ h.0, h.1 ∙ ap (λ xs. xs ++ h.0) g.1 ∙ append_assoc ts g.0 h.0, all_both g.0 h.0 g.2 h.2)

pub lasts_by : (P : List TypeTree → Type 0) (ts ws : List TypeTree) → Grows ts ws → ((more : List TypeTree) → P ts → P (ts ++ more)) → P ts → P ws
lasts_by P ts ws g k h = subst P (sym g.1) (k g.0 h)

-- a tree of which P holds with the locals after it, which are more than those before it
abbrev pub Keeps : {A : Type 0} → (List TypeTree → A → Type 0) → Locals → After A → Type 0
Keeps P ls a = Grows ls.types a.locals.types × P a.locals.types a.tree

pub gives_keeps : {A : Type 0} (P : List TypeTree → A → Type 0) (ls now : Locals) (x : A) (a : After A) → gives x now ≡ Ok a → Grows ls.types now.types → P now.types x → Keeps P ls a
gives_keeps P ls now x a h g k = subst (Keeps P ls) (ok_same (record { tree = x; locals = now }) a h) (g, k)

left_types : (bs : List Block) (ls : Locals) → (left_to bs ls).types ≡ ls.types
left_types [] ls = refl
left_types (b ∷ bs) ls = refl

leaving_keeps : {A : Type 0} (P : List TypeTree → A → Type 0) (ls : Locals) (r : Judged (After A)) (a : After A) → ((b : After A) → r ≡ Ok b → Keeps P ls b) → leaving r ≡ Ok a → Keeps P ls a
leaving_keeps P ls r a k h =
    let b = parts_of r (λ b. gives b.tree (closed b.locals)) a h in
    let q = k b.0 b.1 in
    let e = sym (left_types b.0.locals.outer b.0.locals) in
    gives_keeps P ls (closed b.0.locals) b.0.tree a b.2 (subst (Grows ls.types) e q.0) (subst (λ ts. P ts b.0.tree) e q.1)

-- ---- statements that declare nothing

staying_keeps : (P : List TypeTree → StmtTree → Type 0) (ls : Locals) (j : Judged StmtTree) (a : After StmtTree) → ((x : StmtTree) → j ≡ Ok x → P ls.types x) → staying ls j ≡ Ok a → Keeps P ls a
staying_keeps P ls j a k h =
    let x = parts_of j (λ x. gives x ls) a h in
    gives_keeps P ls ls x.0 a x.2 (grows_none ls.types) (k x.0 x.1)

jump_holds : (env : Declared) (around : Around) (ts : List TypeTree) (s : Span) (may : Bool) (k : StmtKindTree) (x : StmtTree) → typed_jump s may k ≡ Ok x → (may ≡ true → IsTypedKind env around ts k) → IsTypedStmt env around ts x
jump_holds env around ts s may k x h g =
    let p = tested may (Ok (stmt s k)) s 11 x h in
    subst (IsTypedStmt env around ts) (ok_same (stmt s k) x p.1) (g p.0)

pub not_void : (b : Bool) (j : Judged StmtTree) (s : Span) (y : StmtTree) → (if b then breaks s 9 else j) ≡ Ok y → (b ≡ false) × (j ≡ Ok y)
not_void true j s y h = absurd cc
not_void false j s y h = (refl, h)

return_holds : (env : Declared) (around : Around) (ls : Locals) (s : Span) (r : Option RhsTree) (x : StmtTree) → typed_return env ls s around.result r ≡ Ok x → IsTypedStmt env around ls.types x
return_holds env around ls s None x h =
    let p = tested (is_void around.result) (Ok (stmt s (return None))) s 9 x h in
    subst (IsTypedStmt env around ls.types) (ok_same (stmt s (return None)) x p.1) p.0
return_holds env around ls s (Some r) x h =
    let v = parts_of (typed_rhs env ls r) (returned s around.result) x h in
    let p = not_void (is_void around.result) (assigned around.result v.0 >>= (λ r. Ok (stmt s (return (Some r))))) s x v.2 in
    let a = parts_of (assigned around.result v.0) (λ r. Ok (stmt s (return (Some r)))) x p.1 in
    subst (IsTypedStmt env around ls.types) (ok_same (stmt s (return (Some a.0))) x a.2) (p.0, rhs_holds env ls around.result r v.0 a.0 v.1 a.1)

alone_stmt_holds : (env : Declared) (around : Around) (ls : Locals) (s : Span) (e : EffectTree) (x : StmtTree) → walk.typed_alone env ls s e ≡ Ok x → IsTypedStmt env around ls.types x
alone_stmt_holds env around ls s e x h =
    let f = parts_of (typed_effect env ls e) (λ f. Ok (stmt s (effect f))) x h in
    subst (IsTypedStmt env around ls.types) (ok_same (stmt s (effect f.0)) x f.2) (effect_holds env ls e f.0 f.1)

-- ---- variables

at_end : (ts : List TypeTree) (t : TypeTree) → slice_get (ts ++ t ∷ []) (length ts) ≡ Some t
at_end [] t = refl
at_end (w ∷ ts) t = at_end ts t

variable_holds : (env : Declared) (around : Around) (ls : Locals) (s : Span) (n : ℕ) (t : TypeTree) (r : Option RhsTree) (x : StmtTree) → variable_by env ls s n t r ≡ Ok x
    → (is_variable ls n t ≡ true) × IsTypedStmt env around (declared n t ls).types x
variable_holds env around ls s n t None x h =
    let p = tested (is_variable ls n t) (Ok (stmt s (declare (length ls.types) t None))) s 12 x h in
    (p.0, subst (IsTypedStmt env around (declared n t ls).types) (ok_same (stmt s (declare (length ls.types) t None)) x p.1) (at_end ls.types t, tt))
variable_holds env around ls s n t (Some r) x h =
    let v = parts_of (typed_rhs env (declared n t ls) r) (initialised s (is_variable ls n t) (length ls.types) t) x h in
    let p = tested (is_variable ls n t) (assigned t v.0 >>= (λ r. Ok (stmt s (declare (length ls.types) t (Some r))))) s 12 x v.2 in
    let a = parts_of (assigned t v.0) (λ r. Ok (stmt s (declare (length ls.types) t (Some r)))) x p.1 in
    (p.0, subst (IsTypedStmt env around (declared n t ls).types) (ok_same (stmt s (declare (length ls.types) t (Some a.0))) x a.2) (at_end ls.types t, rhs_holds env (declared n t ls) t r v.0 a.0 v.1 a.1))

declared_grows : (ls : Locals) (n : ℕ) (t : TypeTree) → is_scalar t ≡ true → Grows ls.types (declared n t ls).types
declared_grows ls n t h = (t ∷ [], refl, true_both (is_scalar t) true h refl)

declare_holds : (env : Declared) (around : Around) (ls : Locals) (s : Span) (n : ℕ) (t : TypeTree) (r : Option RhsTree) (a : After StmtTree) → typed_variable env ls s n t r ≡ Ok a → Keeps (IsTypedStmt env around) ls a
declare_holds env around ls s n t r a h =
    let x = parts_of (variable_by env ls s n t r) (λ d. gives d (declared n t ls)) a h in
    let v = variable_holds env around ls s n t r x.0 x.1 in
    gives_keeps (IsTypedStmt env around) ls (declared n t ls) x.0 a x.2 (declared_grows ls n t (both_true (is_scalar t) (is_new ls n) v.0).0) v.1

-- ---- statements

pub switched_is : (x y : ExprTree) → switched x ≡ Ok y → (is_int (value_of x) ≡ true) × (x ≡ y)
switched_is x y h =
    let p = tested (is_int (value_of x)) (Ok x) (span_of x) 10 y h in
    (p.0, ok_same x y p.1)

-- a statement that is a block of its own
inner_by : (env : Declared) (around : Around) (ls : Locals) (s : StmtTree) (a : After StmtTree) → ((b : After StmtTree) → typed_stmt env around (opened ls) s ≡ Ok b → Keeps (IsTypedStmt env around) (opened ls) b)
    → leaving (typed_stmt env around (opened ls) s) ≡ Ok a → Keeps (IsTypedStmt env around) ls a
inner_by env around ls s a k h = leaving_keeps (IsTypedStmt env around) ls (typed_stmt env around (opened ls) s) a k h

-- a for, before its names are gone
for_by : (env : Declared) (around : Around) (ls : Locals) (s : Span) (init : StmtTrees) (c : Option ExprTree) (steps : List EffectTree) (b : StmtTree) (a : After StmtTree)
    → ((i : After StmtTrees) → typed_stmts env around (opened ls) init ≡ Ok i → Keeps (AreTypedStmts env around) ls i)
    → ((now : Locals) (x : After StmtTree) → typed_stmt env (in_loop around) now b ≡ Ok x → Keeps (IsTypedStmt env (in_loop around)) now x)
    → (typed_stmts env around (opened ls) init >>= (λ i. typed_optional env i.locals c >>= (λ d. typed_effects env i.locals steps >>= (λ es.
    leaving (typed_stmt env (in_loop around) (opened i.locals) b) >>= (λ b. gives (stmt s (for i.tree d es b.tree)) b.locals))))) ≡ Ok a
    → Keeps (IsTypedStmt env around) ls a
for_by env around ls s init c steps b a ki kb h =
    let i = parts_of (typed_stmts env around (opened ls) init) (λ i. typed_optional env i.locals c >>= (λ d. typed_effects env i.locals steps >>= (λ es.
    leaving (typed_stmt env (in_loop around) (opened i.locals) b) >>= (λ b. gives (stmt s (for i.tree d es b.tree)) b.locals)))) a h in
    let d = parts_of (typed_optional env i.0.locals c) (λ d. typed_effects env i.0.locals steps >>= (λ es.
    leaving (typed_stmt env (in_loop around) (opened i.0.locals) b) >>= (λ b. gives (stmt s (for i.0.tree d es b.tree)) b.locals))) a i.2 in
    let es = parts_of (typed_effects env i.0.locals steps) (λ es. leaving (typed_stmt env (in_loop around) (opened i.0.locals) b) >>= (λ b. gives (stmt s (for i.0.tree d.0 es b.tree)) b.locals)) a d.2 in
    let x = parts_of (leaving (typed_stmt env (in_loop around) (opened i.0.locals) b)) (λ b. gives (stmt s (for i.0.tree d.0 es.0 b.tree)) b.locals) a es.2 in
    let k = ki i.0 i.1 in
    let m = inner_by env (in_loop around) i.0.locals b x.0 (kb (opened i.0.locals)) x.1 in
    let init_lasts = lasts_by (λ ts. AreTypedStmts env around ts i.0.tree) i.0.locals.types x.0.locals.types m.0 (λ more. stmts_last env i.0.locals.types more around i.0.tree) k.1 in
    let c_lasts = lasts_by (λ ts. IsTypedOptional env ts d.0) i.0.locals.types x.0.locals.types m.0 (λ more. optional_lasts env i.0.locals.types more d.0) (optional_holds env i.0.locals c d.0 d.1) in
    let steps_last = lasts_by (λ ts. AreTypedEffects env ts es.0) i.0.locals.types x.0.locals.types m.0 (λ more. effects_last env i.0.locals.types more es.0) (effects_hold env i.0.locals steps es.0 es.1) in
    gives_keeps (IsTypedStmt env around) ls x.0.locals (stmt s (for i.0.tree d.0 es.0 x.0.tree)) a x.2 (grows_both ls.types i.0.locals.types x.0.locals.types k.0 m.0) (init_lasts, c_lasts, steps_last, m.1)

mutual
  pub stmt_holds : (env : Declared) (around : Around) (ls : Locals) (s : StmtTree) (a : After StmtTree) → typed_stmt env around ls s ≡ Ok a → Keeps (IsTypedStmt env around) ls a
  stmt_holds env around ls (stmt s k) a h = stmt_kind_holds env around ls s k a h

  stmt_kind_holds : (env : Declared) (around : Around) (ls : Locals) (s : Span) (k : StmtKindTree) (a : After StmtTree) → typed_stmt_kind env around ls s k ≡ Ok a → Keeps (IsTypedStmt env around) ls a
  stmt_kind_holds env around ls s (block ss) a h = leaving_keeps (IsTypedStmt env around) ls (typed_stmts env around (opened ls) ss >>= (λ a. gives (stmt s (block a.tree)) a.locals)) a (λ b e.
      let x = parts_of (typed_stmts env around (opened ls) ss) (λ a. gives (stmt s (block a.tree)) a.locals) b e in
      let k = stmts_hold env around (opened ls) ss x.0 x.1 in
      gives_keeps (IsTypedStmt env around) ls x.0.locals (stmt s (block x.0.tree)) b x.2 k.0 k.1) h
  stmt_kind_holds env around ls s empty a h = gives_keeps (IsTypedStmt env around) ls ls (stmt s empty) a h (grows_none ls.types) tt
  stmt_kind_holds env around ls s (effect e) a h = staying_keeps (IsTypedStmt env around) ls (walk.typed_alone env ls s e) a (λ x k. alone_stmt_holds env around ls s e x k) h
  stmt_kind_holds env around ls s (declare n t r) a h = declare_holds env around ls s n t r a h
  stmt_kind_holds env around ls s (if_alone c b) a h =
      let d = parts_of (typed_condition env ls c) (λ d. leaving (typed_stmt env around (opened ls) b) >>= (λ b. gives (stmt s (if_alone d b.tree)) b.locals)) a h in
      let x = parts_of (leaving (typed_stmt env around (opened ls) b)) (λ b. gives (stmt s (if_alone d.0 b.tree)) b.locals) a d.2 in
      let k = inner_by env around ls b x.0 (λ z i. stmt_holds env around (opened ls) b z i) x.1 in
      let c_lasts = lasts_by (λ ts. IsTypedCondition env ts d.0) ls.types x.0.locals.types k.0 (λ more. condition_lasts env ls.types more d.0) (condition_holds env ls c d.0 d.1) in
      gives_keeps (IsTypedStmt env around) ls x.0.locals (stmt s (if_alone d.0 x.0.tree)) a x.2 k.0 (c_lasts, k.1)
  stmt_kind_holds env around ls s (if_else c b e) a h =
      let d = parts_of (typed_condition env ls c) (λ d. leaving (typed_stmt env around (opened ls) b) >>= (λ x. leaving (typed_stmt env around (opened x.locals) e) >>= (λ y. gives (stmt s (if_else d x.tree y.tree)) y.locals))) a h in
      let x = parts_of (leaving (typed_stmt env around (opened ls) b)) (λ x. leaving (typed_stmt env around (opened x.locals) e) >>= (λ y. gives (stmt s (if_else d.0 x.tree y.tree)) y.locals)) a d.2 in
      let y = parts_of (leaving (typed_stmt env around (opened x.0.locals) e)) (λ y. gives (stmt s (if_else d.0 x.0.tree y.tree)) y.locals) a x.2 in
      let k = inner_by env around ls b x.0 (λ z i. stmt_holds env around (opened ls) b z i) x.1 in
      let m = inner_by env around x.0.locals e y.0 (λ z i. stmt_holds env around (opened x.0.locals) e z i) y.1 in
      let g = grows_both ls.types x.0.locals.types y.0.locals.types k.0 m.0 in
      let c_lasts = lasts_by (λ ts. IsTypedCondition env ts d.0) ls.types y.0.locals.types g (λ more. condition_lasts env ls.types more d.0) (condition_holds env ls c d.0 d.1) in
      let b_lasts = lasts_by (λ ts. IsTypedStmt env around ts x.0.tree) x.0.locals.types y.0.locals.types m.0 (λ more. stmt_lasts env x.0.locals.types more around x.0.tree) k.1 in
      gives_keeps (IsTypedStmt env around) ls y.0.locals (stmt s (if_else d.0 x.0.tree y.0.tree)) a y.2 g (c_lasts, b_lasts, m.1)
  stmt_kind_holds env around ls s (while c b) a h =
      let d = parts_of (typed_condition env ls c) (λ d. leaving (typed_stmt env (in_loop around) (opened ls) b) >>= (λ b. gives (stmt s (while d b.tree)) b.locals)) a h in
      let x = parts_of (leaving (typed_stmt env (in_loop around) (opened ls) b)) (λ b. gives (stmt s (while d.0 b.tree)) b.locals) a d.2 in
      let k = inner_by env (in_loop around) ls b x.0 (λ z i. stmt_holds env (in_loop around) (opened ls) b z i) x.1 in
      let c_lasts = lasts_by (λ ts. IsTypedCondition env ts d.0) ls.types x.0.locals.types k.0 (λ more. condition_lasts env ls.types more d.0) (condition_holds env ls c d.0 d.1) in
      gives_keeps (IsTypedStmt env around) ls x.0.locals (stmt s (while d.0 x.0.tree)) a x.2 k.0 (c_lasts, k.1)
  stmt_kind_holds env around ls s (do_while b c) a h =
      let x = parts_of (leaving (typed_stmt env (in_loop around) (opened ls) b)) (λ b. typed_condition env b.locals c >>= (λ d. gives (stmt s (do_while b.tree d)) b.locals)) a h in
      let d = parts_of (typed_condition env x.0.locals c) (λ d. gives (stmt s (do_while x.0.tree d)) x.0.locals) a x.2 in
      let k = inner_by env (in_loop around) ls b x.0 (λ z i. stmt_holds env (in_loop around) (opened ls) b z i) x.1 in
      gives_keeps (IsTypedStmt env around) ls x.0.locals (stmt s (do_while x.0.tree d.0)) a d.2 k.0 (k.1, condition_holds env x.0.locals c d.0 d.1)
  stmt_kind_holds env around ls s (for init c steps b) a h = leaving_keeps (IsTypedStmt env around) ls
      (typed_stmts env around (opened ls) init >>= (λ i. typed_optional env i.locals c >>= (λ d. typed_effects env i.locals steps >>= (λ es.
      leaving (typed_stmt env (in_loop around) (opened i.locals) b) >>= (λ b. gives (stmt s (for i.tree d es b.tree)) b.locals)))))
      a (λ z e. for_by env around ls s init c steps b z (λ i k. stmts_hold env around (opened ls) init i k) (λ now x k. stmt_holds env (in_loop around) now b x k) e) h
  stmt_kind_holds env around ls s (switch v gs) a h =
      let x = parts_of (typed env ls v) (λ a. switched a >>= (λ w. leaving (typed_groups env (in_switch around) (opened ls) (label_type w) s none_seen gs >>= (λ b. gives (stmt s (switch w b.tree)) b.locals)))) a h in
      let w = parts_of (switched x.0) (λ w. leaving (typed_groups env (in_switch around) (opened ls) (label_type w) s none_seen gs >>= (λ b. gives (stmt s (switch w b.tree)) b.locals))) a x.2 in
      let p = switched_is x.0 w.0 w.1 in
      let typed_w : IsTyped env ls.types w.0 = subst (IsTyped env ls.types) p.1 (typed_keeps env ls v x.0 x.1) in
      let int_w : is_int (value_of w.0) ≡ true = subst (λ (y : ExprTree). is_int (value_of y) ≡ true) p.1 p.0 in
      leaving_keeps (IsTypedStmt env around) ls (typed_groups env (in_switch around) (opened ls) (label_type w.0) s none_seen gs >>= (λ b. gives (stmt s (switch w.0 b.tree)) b.locals)) a (λ z e.
      let b = parts_of (typed_groups env (in_switch around) (opened ls) (label_type w.0) s none_seen gs) (λ b. gives (stmt s (switch w.0 b.tree)) b.locals) z e in
      let k = groups_hold env (in_switch around) (opened ls) (label_type w.0) s none_seen gs b.0 b.1 in
      let w_lasts = lasts_by (λ ts. IsTyped env ts w.0) ls.types b.0.locals.types k.0 (λ more. expr_lasts env ls.types more w.0) typed_w in
      gives_keeps (IsTypedStmt env around) ls b.0.locals (stmt s (switch w.0 b.0.tree)) z b.2 k.0 (w_lasts, int_w, k.1)) w.2
  stmt_kind_holds env around ls s break a h = staying_keeps (IsTypedStmt env around) ls (typed_jump s around.breakable break) a (λ x k. jump_holds env around ls.types s around.breakable break x k (λ e. e)) h
  stmt_kind_holds env around ls s continue a h = staying_keeps (IsTypedStmt env around) ls (typed_jump s around.looped continue) a (λ x k. jump_holds env around ls.types s around.looped continue x k (λ e. e)) h
  stmt_kind_holds env around ls s (return r) a h = staying_keeps (IsTypedStmt env around) ls (typed_return env ls s around.result r) a (λ x k. return_holds env around ls s r x k) h

  pub stmts_hold : (env : Declared) (around : Around) (ls : Locals) (ss : StmtTrees) (a : After StmtTrees) → typed_stmts env around ls ss ≡ Ok a → Keeps (AreTypedStmts env around) ls a
  stmts_hold env around ls no_stmt a h = gives_keeps (AreTypedStmts env around) ls ls no_stmt a h (grows_none ls.types) tt
  stmts_hold env around ls (also_stmt s ss) a h =
      let x = parts_of (typed_stmt env around ls s) (λ a. typed_stmts env around a.locals ss >>= (λ b. gives (also_stmt a.tree b.tree) b.locals)) a h in
      let y = parts_of (typed_stmts env around x.0.locals ss) (λ b. gives (also_stmt x.0.tree b.tree) b.locals) a x.2 in
      let k = stmt_holds env around ls s x.0 x.1 in
      let m = stmts_hold env around x.0.locals ss y.0 y.1 in
      let s_lasts = lasts_by (λ ts. IsTypedStmt env around ts x.0.tree) x.0.locals.types y.0.locals.types m.0 (λ more. stmt_lasts env x.0.locals.types more around x.0.tree) k.1 in
      gives_keeps (AreTypedStmts env around) ls y.0.locals (also_stmt x.0.tree y.0.tree) a y.2 (grows_both ls.types x.0.locals.types y.0.locals.types k.0 m.0) (s_lasts, m.1)

  groups_hold : (env : Declared) (around : Around) (ls : Locals) (t : CInt) (s : Span) (seen : Seen) (gs : GroupTrees) (a : After GroupTrees) → typed_groups env around ls t s seen gs ≡ Ok a → Keeps (AreTypedGroups env around) ls a
  groups_hold env around ls t s seen no_group a h = gives_keeps (AreTypedGroups env around) ls ls no_group a h (grows_none ls.types) tt
  groups_hold env around ls t s seen (also_group xs ss gs) a h =
      let l = parts_of (typed_labels env t s seen xs) (λ l. typed_stmts env around ls ss >>= (λ a. typed_groups env around a.locals t s l.seen gs >>= (λ b. gives (also_group l.labels a.tree b.tree) b.locals))) a h in
      let x = parts_of (typed_stmts env around ls ss) (λ a. typed_groups env around a.locals t s l.0.seen gs >>= (λ b. gives (also_group l.0.labels a.tree b.tree) b.locals)) a l.2 in
      let y = parts_of (typed_groups env around x.0.locals t s l.0.seen gs) (λ b. gives (also_group l.0.labels x.0.tree b.tree) b.locals) a x.2 in
      let k = stmts_hold env around ls ss x.0 x.1 in
      let m = groups_hold env around x.0.locals t s l.0.seen gs y.0 y.1 in
      let ss_last = lasts_by (λ ts. AreTypedStmts env around ts x.0.tree) x.0.locals.types y.0.locals.types m.0 (λ more. stmts_last env x.0.locals.types more around x.0.tree) k.1 in
      gives_keeps (AreTypedGroups env around) ls y.0.locals (also_group l.0.labels x.0.tree y.0.tree) a y.2 (grows_both ls.types x.0.locals.types y.0.locals.types k.0 m.0) (labels_hold env t s seen xs l.0 l.1, ss_last, m.1)
