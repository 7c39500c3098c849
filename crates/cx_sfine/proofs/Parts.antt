-- Expressions and effects that keep the rules on types are fine.
use Rattle.std.proofs.Common.{◌≡◌, ℕ, zero, suc, ◌<◌, Bool, true, false, List, [], ◌∷◌, length, Option, None, Some, refl, ap, sym, ◌∙◌, subst, arith, inl, inr}
use Rattle.std.specs.Prelude.{is_some, not, ◌&&◌, ◌||◌, ◌==◌, slice_get, if◌then◌else◌}
use Rattle.std.specs.List.{list_all}
use Rattle.std.proofs.lemmas.Bool.Decides.{nat_tests}
use Rattle.cx_base.specs.declared.span.Span.{Span}
use Rattle.cx_base.proofs.General.{both_true}
use Rattle.cx_ctree.specs.Layouts as layout
use Rattle.cx_ctree.specs.Conversions.{unsigned_long}
use Rattle.cx_ctree.specs.Types.{TypeTree, void, int, pointer, array, tag}
use Rattle.cx_ctree.specs.Exprs.{ExprTree, node, type_of, num, name, local, global, unary, binary, cond, cast, size_of, size_of_expr, index, member, arrow, deref, address, CallTree, RhsTree, value, call, EffectTree, set, update, call_alone, value_alone}
use Rattle.cx_ctree.specs.declared.expr.Binary.TheVariants as b
use Rattle.cx_cname.specs.Known.{Known}
use Rattle.cx_ctype.specs.Operations.{is_scalar, is_zero, if_true}
use Rattle.cx_ctype.specs.Accesses.{element, if_complete, if_sized, member_type, in_memory}
use Rattle.cx_sname.specs.File.{Declared}
use Rattle.cx_snode.specs.Nodes.{value_of, element_of, placed_member}
use Rattle.cx_sexpr.specs.Kept.{IsTyped}
use Rattle.cx_seffect.specs.Calls as calls
use Rattle.cx_seffect.specs.Effects.{is_place}
use Rattle.cx_sema.specs.Kept.{AreTyped, IsTypedCall, IsTypedRhs, IsTypedAlone, IsTypedEffect, AreTypedEffects}
use Rattle.cx_cmean.specs.Numbers as mean
use Rattle.cx_cmean.specs.Effects.{operand_of}
use Rattle.cx_cmean.specs.Program.{Function, function_as, function_of}
use Rattle.cx_lcode.specs.Places.{sort_of}
use Rattle.cx_lright.specs.Fine as fine
use Rattle.cx_lright.specs.Fine.{Fine, PlaceFine, AllFine, CallFine, RightFine, LeftFine, EffectFine, EffectsFine}
use Rattle.cx_sfine.proofs.Operands.{same_value, same_scalar, scalar_taken, cast_scalar, unary_scalar, binary_takes, arms_scalar, element_takes, update_changes}

-- ---- types that no object of which is a local

tag_no_scalar : (t : TypeTree) (k : ℕ) → is_scalar t ≡ true → t ≡ tag k → ⊥
tag_no_scalar t k h e = bad (subst (λ (t : TypeTree). is_scalar t ≡ true) e h)
  where
    bad : false ≡ true → ⊥
    bad h = cc

scalar_at : (ts : List TypeTree) (x : ℕ) (t : TypeTree) → list_all is_scalar ts ≡ true → slice_get ts x ≡ Some t → is_scalar t ≡ true
scalar_at [] x t h e = absurd cc
scalar_at (w ∷ ts) zero t h e = let same : w ≡ t = cc in subst (λ (t : TypeTree). is_scalar t ≡ true) same (both_true (is_scalar w) (list_all is_scalar ts) h).0
scalar_at (w ∷ ts) (suc x) t h e = scalar_at ts x t (both_true (is_scalar w) (list_all is_scalar ts) h).1 e

pub exists_at : (ts : List TypeTree) (x : ℕ) (t : TypeTree) → slice_get ts x ≡ Some t → x < length ts
exists_at [] x t e = absurd cc
exists_at (w ∷ ts) zero t e = omega arith
exists_at (w ∷ ts) (suc x) t e = let h = exists_at ts x t e in omega (arith, h)

placed_then : (b : Bool) (o : Option TypeTree) (t : TypeTree) → (if b then o else None) ≡ Some t → o ≡ Some t
placed_then true o t h = h
placed_then false o t h = absurd cc

-- only a struct or union has members
member_of_tag : (env : Known) (w : TypeTree) (m : ℕ) (t : TypeTree) → member_type env w m ≡ Some t → (k : ℕ) × (w ≡ tag k)
member_of_tag env void m t h = absurd cc
member_of_tag env (int n) m t h = absurd cc
member_of_tag env (pointer w) m t h = absurd cc
member_of_tag env (array w n) m t h = absurd cc
member_of_tag env (tag k) m t h = (k, refl)

placed_in_tag : (env : Known) (w : TypeTree) (m : ℕ) (t : TypeTree) → placed_member env w m ≡ Some t → (k : ℕ) × (w ≡ tag k)
placed_in_tag env w m t h = member_of_tag env w m t (placed_then (is_some (layout.size_of env.tags w)) (member_type env w m) t h)

element_sized : (env : Known) (o : Option TypeTree) (t : TypeTree) → if_sized env (if_complete env o) ≡ Some t → (w : TypeTree) × (o ≡ Some w)
element_sized env None t h = absurd cc
element_sized env (Some w) t h = (w, refl)

size_is_number : (b : Bool) (t : TypeTree) → if_true b (int unsigned_long) ≡ Some t → is_scalar t ≡ true
size_is_number true t h = let same : int unsigned_long ≡ t = cc in subst (λ (t : TypeTree). is_scalar t ≡ true) same refl
size_is_number false t h = absurd cc

-- the operands of an operator, as lowering takes them
same_operands : (P : TypeTree → TypeTree → Type 0) (x y : ExprTree) → P (value_of x) (value_of y) → P (mean.value_type (type_of x)) (mean.value_type (type_of y))
same_operands P x y h =
    subst (λ t. P t (mean.value_type (type_of y))) (sym (same_value (type_of x))) (subst (λ t. P (value_of x) t) (sym (same_value (type_of y))) h)

pub index_takes : (env : Declared) (x y : ExprTree) (t : TypeTree) → if_sized env.known (element_of env.known x y) ≡ Some t → fine.takes b.Add (mean.value_type (type_of x)) (mean.value_type (type_of y)) ≡ true
index_takes env x y t h =
    let w = element_sized env.known (element (value_of x) (value_of y)) t h in
    same_operands (λ t w. fine.takes b.Add t w ≡ true) x y (element_takes (value_of x) (value_of y) w.0 w.1)

-- ---- expressions

module _ (env : Declared) (ls : List TypeTree) (scalar : list_all is_scalar ls ≡ true) where
  mutual
    pub expr_fine : (x : ExprTree) → IsTyped env ls x → Fine (length ls) x
    expr_fine (node s t (num v w)) h = tt
    expr_fine (node s t (name n)) h = h
    expr_fine (node s t (local x)) h = exists_at ls x t h
    expr_fine (node s t (global n)) h = tt
    expr_fine (node s t (unary op x)) h = expr_fine x h.0
    expr_fine (node s t (binary op x y)) h =
        let k = binary_takes env.known op (is_zero env.known x) (is_zero env.known y) (value_of x) (value_of y) t h.2 in
        (same_operands (λ t w. fine.sort_takes (sort_of op) op t w ≡ true) x y k.0, expr_fine x h.0, expr_fine y h.1)
    expr_fine (node s t (cond c x y)) h = (expr_fine c h.0, expr_fine x h.1, expr_fine y h.2)
    expr_fine (node s t (cast w x)) h = expr_fine x h.0
    expr_fine (node s t (size_of w)) h = tt
    expr_fine (node s t (size_of_expr x)) h = tt
    expr_fine (node s t (index x y)) h = (index_takes env x y t h.2, expr_fine x h.0, expr_fine y h.1)
    expr_fine (node s t (member x m)) h = let k = placed_in_tag env.known (type_of x) m t h.1 in tag_fine x k.0 k.1 h.0
    expr_fine (node s t (arrow x m)) h = expr_fine x h.0
    expr_fine (node s t (deref x)) h = expr_fine x h.0
    expr_fine (node s t (address x)) h = memory_fine x h.1 h.0

    -- a struct or union is in memory
    tag_fine : (x : ExprTree) (k : ℕ) → type_of x ≡ tag k → IsTyped env ls x → PlaceFine (length ls) x
    tag_fine (node s t (num v w)) k e h = absurd (tag_no_scalar (int w) k refl (sym h ∙ e))
    tag_fine (node s t (name n)) k e h = h
    tag_fine (node s t (local x)) k e h = absurd (tag_no_scalar t k (scalar_at ls x t scalar h) e)
    tag_fine (node s t (global n)) k e h = tt
    tag_fine (node s t (unary op x)) k e h = absurd (tag_no_scalar t k (unary_scalar op (value_of x) t h.1) e)
    tag_fine (node s t (binary op x y)) k e h =
        absurd (tag_no_scalar t k (binary_takes env.known op (is_zero env.known x) (is_zero env.known y) (value_of x) (value_of y) t h.2).1 e)
    tag_fine (node s t (cond c x y)) k e h = absurd (tag_no_scalar t k (arms_scalar (is_zero env.known x) (is_zero env.known y) (value_of x) (value_of y) t h.4) e)
    tag_fine (node s t (cast w x)) k e h = absurd (tag_no_scalar t k (cast_scalar w (value_of x) t h.1) e)
    tag_fine (node s t (size_of w)) k e h = absurd (tag_no_scalar t k (size_is_number (is_some (layout.size_of env.known.tags w)) t h) e)
    tag_fine (node s t (size_of_expr x)) k e h = absurd (tag_no_scalar t k (size_is_number (is_some (layout.size_of env.known.tags (type_of x))) t h.1) e)
    tag_fine (node s t (index x y)) k e h = (index_takes env x y t h.2, expr_fine x h.0, expr_fine y h.1)
    tag_fine (node s t (member x m)) k e h = let q = placed_in_tag env.known (type_of x) m t h.1 in tag_fine x q.0 q.1 h.0
    tag_fine (node s t (arrow x m)) k e h = expr_fine x h.0
    tag_fine (node s t (deref x)) k e h = expr_fine x h.0
    tag_fine (node s t (address x)) k e h = absurd (tag_no_scalar (pointer (type_of x)) k refl (sym h.2 ∙ e))

    pub memory_fine : (x : ExprTree) → in_memory x ≡ true → IsTyped env ls x → PlaceFine (length ls) x
    memory_fine (node s t (num v w)) e h = absurd cc
    memory_fine (node s t (name n)) e h = h
    memory_fine (node s t (local x)) e h = absurd cc
    memory_fine (node s t (global n)) e h = tt
    memory_fine (node s t (unary op x)) e h = absurd cc
    memory_fine (node s t (binary op x y)) e h = absurd cc
    memory_fine (node s t (cond c x y)) e h = absurd cc
    memory_fine (node s t (cast w x)) e h = absurd cc
    memory_fine (node s t (size_of w)) e h = absurd cc
    memory_fine (node s t (size_of_expr x)) e h = absurd cc
    memory_fine (node s t (index x y)) e h = (index_takes env x y t h.2, expr_fine x h.0, expr_fine y h.1)
    memory_fine (node s t (member x m)) e h = memory_fine x e h.0
    memory_fine (node s t (arrow x m)) e h = expr_fine x h.0
    memory_fine (node s t (deref x)) e h = expr_fine x h.0
    memory_fine (node s t (address x)) e h = absurd cc

  all_fine : (xs : List ExprTree) → AreTyped env ls xs → AllFine (length ls) xs
  all_fine [] h = tt
  all_fine (x ∷ xs) h = (expr_fine x h.0, all_fine xs h.1)

-- ---- calls

first_of : (a b c : Bool) → (a && b && c) ≡ true → a ≡ true
first_of true b c h = refl
first_of false b c h = h

last_of : (a b c : Bool) → (a && b && c) ≡ true → c ≡ true
last_of true true c h = h
last_of true false c h = absurd cc
last_of false b c h = absurd cc

or_nothing : (a b : Bool) → (a || (not true && b)) ≡ true → a ≡ true
or_nothing true b h = refl
or_nothing false b h = absurd cc

same_count : (n m : ℕ) → (n == m) ≡ true → m ≡ n
same_count n m h = grind (arith, nat_tests, h)

pub call_fine : (env : Declared) (ls : List TypeTree) → list_all is_scalar ls ≡ true → (taken : Bool) (c : CallTree) (r : TypeTree) → IsTypedCall env ls taken c r → CallFine env (length ls) c
call_fine env ls scalar taken c r h =
    let f : function_of env c.name ≡ record { result = r; params = h.1 } = ap function_as h.2 in
    let n = same_count (length h.1) (length c.args) (first_of (length h.1 == length c.args) (list_all is_scalar h.1) (is_scalar r || (not taken && calls.is_void r)) h.3) in
    (all_fine env ls scalar c.args h.0, n ∙ ap (λ (g : Function). length g.params) (sym f))

taken_fine : (env : Declared) (ls : List TypeTree) (c : CallTree) (r : TypeTree) → IsTypedCall env ls true c r → fine.is_void (function_of env c.name).result ≡ false
taken_fine env ls c r h =
    let f : function_of env c.name ≡ record { result = r; params = h.1 } = ap function_as h.2 in
    let s = or_nothing (is_scalar r) (calls.is_void r) (last_of (length h.1 == length c.args) (list_all is_scalar h.1) (is_scalar r || (not true && calls.is_void r)) h.3) in
    ap (λ (g : Function). fine.is_void g.result) f ∙ scalar_taken r s

-- ---- effects

pub right_fine : (env : Declared) (ls : List TypeTree) → list_all is_scalar ls ≡ true → (t : TypeTree) (r : RhsTree) → IsTypedRhs env ls t r → RightFine env (length ls) r
right_fine env ls scalar t (value x) h = expr_fine env ls scalar x h.0
right_fine env ls scalar t (call c None) h = (call_fine env ls scalar true c h.0 h.1, taken_fine env ls c h.0 h.1)
right_fine env ls scalar t (call c (Some w)) h = (call_fine env ls scalar true c h.0 h.1, taken_fine env ls c h.0 h.1)

-- an object in memory on the left of an assignment
memory_left : (env : Declared) (ls : List TypeTree) → list_all is_scalar ls ≡ true → (l : ExprTree) → IsTyped env ls l → (in_memory l && is_scalar (type_of l)) ≡ true → PlaceFine (length ls) l × (fine.is_scalar (type_of l) ≡ true)
memory_left env ls scalar l h p =
    let q = both_true (in_memory l) (is_scalar (type_of l)) p in
    (memory_fine env ls scalar l q.0 h, same_scalar (type_of l) q.1)

pub left_fine : (env : Declared) (ls : List TypeTree) → list_all is_scalar ls ≡ true → (l : ExprTree) → IsTyped env ls l → is_place l ≡ true → LeftFine (length ls) l
left_fine env ls scalar (node s t (num v w)) h p = absurd cc
left_fine env ls scalar (node s t (name n)) h p = absurd h
left_fine env ls scalar (node s t (local x)) h p = exists_at ls x t h
left_fine env ls scalar (node s t (global n)) h p = memory_left env ls scalar (node s t (global n)) h p
left_fine env ls scalar (node s t (unary op x)) h p = absurd cc
left_fine env ls scalar (node s t (binary op x y)) h p = absurd cc
left_fine env ls scalar (node s t (cond c x y)) h p = absurd cc
left_fine env ls scalar (node s t (cast w x)) h p = absurd cc
left_fine env ls scalar (node s t (size_of w)) h p = absurd cc
left_fine env ls scalar (node s t (size_of_expr x)) h p = absurd cc
left_fine env ls scalar (node s t (index x y)) h p = memory_left env ls scalar (node s t (index x y)) h p
left_fine env ls scalar (node s t (member x m)) h p = memory_left env ls scalar (node s t (member x m)) h p
left_fine env ls scalar (node s t (arrow x m)) h p = memory_left env ls scalar (node s t (arrow x m)) h p
left_fine env ls scalar (node s t (deref x)) h p = memory_left env ls scalar (node s t (deref x)) h p
left_fine env ls scalar (node s t (address x)) h p = absurd cc

place_scalar : (a b : Bool) → (a && b) ≡ true → b ≡ true
place_scalar a b h = (both_true a b h).1

-- an expression whose value is scalar is no cast to void
no_cast_to_void : (env : Declared) (ls : List TypeTree) (s : Span) (t : TypeTree) (x : ExprTree) → IsTyped env ls (node s t (cast void x)) → ⊥
no_cast_to_void env ls s t x h = bad h.1
  where
    bad : None ≡ Some t → ⊥
    bad h = cc

operand_fine : (env : Declared) (ls : List TypeTree) → list_all is_scalar ls ≡ true → (x : ExprTree) → IsTyped env ls x → Fine (length ls) (operand_of x)
operand_fine env ls scalar (node s t (num v w)) h = expr_fine env ls scalar (node s t (num v w)) h
operand_fine env ls scalar (node s t (name n)) h = expr_fine env ls scalar (node s t (name n)) h
operand_fine env ls scalar (node s t (local x)) h = expr_fine env ls scalar (node s t (local x)) h
operand_fine env ls scalar (node s t (global n)) h = expr_fine env ls scalar (node s t (global n)) h
operand_fine env ls scalar (node s t (unary op x)) h = expr_fine env ls scalar (node s t (unary op x)) h
operand_fine env ls scalar (node s t (binary op x y)) h = expr_fine env ls scalar (node s t (binary op x y)) h
operand_fine env ls scalar (node s t (cond c x y)) h = expr_fine env ls scalar (node s t (cond c x y)) h
operand_fine env ls scalar (node s t (size_of w)) h = expr_fine env ls scalar (node s t (size_of w)) h
operand_fine env ls scalar (node s t (size_of_expr x)) h = expr_fine env ls scalar (node s t (size_of_expr x)) h
operand_fine env ls scalar (node s t (index x y)) h = expr_fine env ls scalar (node s t (index x y)) h
operand_fine env ls scalar (node s t (member x m)) h = expr_fine env ls scalar (node s t (member x m)) h
operand_fine env ls scalar (node s t (arrow x m)) h = expr_fine env ls scalar (node s t (arrow x m)) h
operand_fine env ls scalar (node s t (deref x)) h = expr_fine env ls scalar (node s t (deref x)) h
operand_fine env ls scalar (node s t (address x)) h = expr_fine env ls scalar (node s t (address x)) h
operand_fine env ls scalar (node s t (cast (int n) x)) h = expr_fine env ls scalar x h.0
operand_fine env ls scalar (node s t (cast (pointer w) x)) h = expr_fine env ls scalar x h.0
operand_fine env ls scalar (node s t (cast (array w n) x)) h = expr_fine env ls scalar x h.0
operand_fine env ls scalar (node s t (cast (tag k) x)) h = expr_fine env ls scalar x h.0
operand_fine env ls scalar (node s t (cast void x)) h = absurd (no_cast_to_void env ls s t x h)

alone_fine : (env : Declared) (ls : List TypeTree) → list_all is_scalar ls ≡ true → (x : ExprTree) → IsTypedAlone env ls x → Fine (length ls) (operand_of x)
alone_fine env ls scalar x (inl h) = operand_fine env ls scalar x h.0
alone_fine env ls scalar x (inr h) = subst (λ (y : ExprTree). Fine (length ls) (operand_of y)) (sym h.1) (expr_fine env ls scalar h.0 h.2)

pub effect_fine : (env : Declared) (ls : List TypeTree) → list_all is_scalar ls ≡ true → (e : EffectTree) → IsTypedEffect env ls e → EffectFine env (length ls) e
effect_fine env ls scalar (set l r s) h = (right_fine env ls scalar (type_of l) r h.2, left_fine env ls scalar l h.0 h.1)
effect_fine env ls scalar (update op l x s) h =
    let k = update_changes op (type_of l) (value_of x) (place_scalar _ (is_scalar (type_of l)) h.2) h.3 in
    (k.0, subst (λ t. fine.changes op (type_of l) t ≡ true) (sym (same_value (type_of x))) k.1, expr_fine env ls scalar x h.1, left_fine env ls scalar l h.0 h.2)
effect_fine env ls scalar (call_alone c) h = call_fine env ls scalar false c h.0 h.1
effect_fine env ls scalar (value_alone x) h = alone_fine env ls scalar x h

pub effects_fine : (env : Declared) (ls : List TypeTree) → list_all is_scalar ls ≡ true → (es : List EffectTree) → AreTypedEffects env ls es → EffectsFine env (length ls) es
effects_fine env ls scalar [] h = tt
effects_fine env ls scalar (e ∷ es) h = (effect_fine env ls scalar e h.0, effects_fine env ls scalar es h.1)
