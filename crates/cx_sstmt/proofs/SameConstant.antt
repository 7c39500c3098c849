-- A constant expression means the same once it has its types, where no local hides a constant.
use Rattle.std.proofs.Common.{◌≡◌, ℕ, ℤ, refl, ap, ◌∙◌, subst, Bool, true, false, List, [], ◌∷◌, Option, None, Some}
use Rattle.std.specs.Prelude.{Ok, pos, ◌==◌, ◌&&◌, option_map, if◌then◌else◌}
use Rattle.std.specs.Ordering.{int_eq}
use Rattle.std.specs.Option.{option_and_then, option_map_or}
use Rattle.cx_base.specs.declared.span.Span.{Span}
use Rattle.cx_ctree.specs.declared.expr.Unary.{Unary}
use Rattle.cx_ctree.specs.declared.expr.Binary.{Binary}
use Rattle.cx_ctree.specs.Conversions.{signed_int, promoted}
use Rattle.cx_ctree.specs.Types.{TypeTree, int, pointer}
use Rattle.cx_ctree.specs.Exprs.{ExprTree, node, type_of, ExprKindTree, num, name, local, global, unary, binary, cond, cast, size_of, size_of_expr, index, member, arrow, deref, address}
use Rattle.cx_ctree.specs.Decls.{DeclTree, types, object, proto, function}
use Rattle.cx_cname.specs.Known.{Known, Meaning, a_type, a_constant, an_object, a_function, function_type, value_of as value_under, declared_as, or_else}
use Rattle.cx_cconst.specs.Constants as c
use Rattle.cx_ctype.specs.Operations.{is_scalar, is_zero, if_true, unary_type, binary_type, arms_type, cast_type}
use Rattle.cx_ctype.specs.Accesses.{size_type, if_sized, in_memory}
use Rattle.cx_ctype.specs.Rules.{unary_rule, binary_rule}
use Rattle.cx_sname.specs.File.{Declared}
use Rattle.cx_scope.specs.Locals.{no_locals}
use Rattle.cx_snode.specs.Judging.{Judged, ◌>>=◌}
use Rattle.cx_snode.specs.Nodes.{value_of, judged, unary_node, binary_node, cond_node, cast_node, size_of_node, index_node, member_node, arrow_node, deref_node, address_node, element_of, target_of, placed_member, member_rule, size_rule, index_rule}
use Rattle.cx_snode.proofs.Judged.{parts_of, ok_same}
use Rattle.cx_sexpr.specs.Typing.{typed, typed_kind, declared_node}
use Rattle.cx_sexpr.proofs.Keeping.{judged_has, chosen, pointed}

-- what an expression means as a constant
pub record Constant : Type 0 where
  pub ctype : Option TypeTree
  pub value : Option ℤ
  -- it is a number or a constant that is 0
  pub naught : Bool
  -- the same, also cast to void *
  pub zero_ : Bool

abbrev meant : Known → ExprTree → Constant
meant env x = record { ctype = c.type_in env x; value = c.value_in env x; naught = c.is_zero_number env x; zero_ = c.is_zero env x }

-- the same of its parts
abbrev of_unary : Unary → Constant → Constant
of_unary op q = record {
  ctype = option_and_then (c.unary_type op) q.ctype;
  value = option_and_then (λ t. option_map (c.unary_value op (promoted (c.number_type t))) q.value) q.ctype;
  naught = false;
  zero_ = false;
}

abbrev of_binary : Known → Binary → Constant → Constant → Constant
of_binary env op q r = record {
  ctype = option_and_then (λ t. option_and_then (c.binary_type env op q.zero_ r.zero_ t) r.ctype) q.ctype;
  value = option_and_then (λ v. c.or_value (c.decided op v) (option_and_then (λ t. option_and_then (λ w. option_and_then (c.binary_value env op t w v) r.value) r.ctype) q.ctype)) q.value;
  naught = false;
  zero_ = false;
}

abbrev arms : Constant → Constant → Constant → Option TypeTree
arms p q r = option_and_then (λ k. if c.is_scalar k then option_and_then (λ t. option_and_then (c.arms_type q.zero_ r.zero_ t) r.ctype) q.ctype else None) p.ctype

abbrev of_cond : Constant → Constant → Constant → Constant
of_cond p q r = record {
  ctype = arms p q r;
  value = option_and_then (λ k. option_and_then (λ t. option_map (c.converted (c.number_type t)) (if int_eq k (pos 0) then r.value else q.value)) (arms p q r)) p.value;
  naught = false;
  zero_ = false;
}

abbrev of_cast : TypeTree → Constant → Constant
of_cast t q = record {
  ctype = option_and_then (λ w. c.if_true (c.is_scalar t && c.is_scalar w) t) q.ctype;
  value = option_map (c.converted (c.number_type t)) q.value;
  naught = false;
  zero_ = c.is_void_pointer t && q.naught;
}

abbrev of_name : Option ℤ → Constant
of_name v = record {
  ctype = option_map (λ v. int signed_int) v;
  value = v;
  naught = option_map_or (λ v. int_eq v (pos 0)) v false;
  zero_ = option_map_or (λ v. int_eq v (pos 0)) v false;
}

-- what comes first of two is no constant
past : (b : Bool) (m : Meaning) (o : Option Meaning) (w : ℤ) → (m ≡ a_constant w → ⊥) → (o ≡ Some (a_constant w) → ⊥) → (if b then Some m else o) ≡ Some (a_constant w) → ⊥
past true m o w not rest h = not cc
past false m o w not rest h = rest h

-- no object or function is a constant
no_constant : (n : ℕ) (ds : List DeclTree) (w : ℤ) → declared_as n ds ≡ Some (a_constant w) → ⊥
no_constant n [] w h = cc
no_constant n (types ∷ ds) w h = no_constant n ds w h
no_constant n (object m t ∷ ds) w h = past (m == n) (an_object t) (declared_as n ds) w (λ k. cc) (no_constant n ds w) h
no_constant n (proto s ∷ ds) w h = past (s.name == n) (function_type s) (declared_as n ds) w (λ k. cc) (no_constant n ds w) h
no_constant n (function f ∷ ds) w h = past (f.sig.name == n) (function_type f.sig) (declared_as n ds) w (λ k. cc) (no_constant n ds w) h

named : (env : Known) (s : Span) (n : ℕ) (t : TypeTree) (o : Option TypeTree) (v : Option ℤ) (d : Option Meaning) (y : ExprTree) → value_under n env.consts ≡ v
    → ((w : ℤ) → d ≡ Some (a_constant w) → ⊥) → declared_node s n (or_else (option_map a_type o) (or_else (option_map a_constant v) d)) ≡ Ok y
    → meant env (node s t (name n)) ≡ meant env y
named env s n t (Some w) v d y e never h = absurd cc
named env s n t None (Some v) d y e never h = subst (λ (y : ExprTree). meant env (node s t (name n)) ≡ meant env y) (ok_same _ _ h) (ap of_name e)
named env s n t None None (Some (an_object w)) y e never h = subst (λ (y : ExprTree). meant env (node s t (name n)) ≡ meant env y) (ok_same _ _ h) (ap of_name e)
named env s n t None None (Some (a_type w)) y e never h = absurd cc
named env s n t None None (Some (a_constant w)) y e never h = absurd (never w refl)
named env s n t None None (Some (a_function r ps)) y e never h = absurd cc
named env s n t None None None y e never h = absurd cc

mutual
  same_meant : (env : Declared) (x y : ExprTree) → typed env no_locals x ≡ Ok y → meant env.known x ≡ meant env.known y
  same_meant env (node s t k) y h = same_kind env s t k y h

  same_kind : (env : Declared) (s : Span) (t : TypeTree) (k : ExprKindTree) (y : ExprTree) → typed_kind env no_locals s k ≡ Ok y → meant env.known (node s t k) ≡ meant env.known y
  same_kind env s t (num v w) y h = subst (λ (y : ExprTree). meant env.known (node s t (num v w)) ≡ meant env.known y) (ok_same _ _ h) refl
  same_kind env s t (name n) y h = named env.known s n t (value_under n env.known.typedefs) (value_under n env.known.consts) (declared_as n env.decls) y refl (no_constant n env.decls) h
  same_kind env s t (local x) y h = absurd cc
  same_kind env s t (global n) y h = absurd cc
  same_kind env s t (unary op x) y h =
      let a = parts_of (typed env no_locals x) (unary_node s op) y h in
      let j = judged_has s (unary_rule op) (unary op a.0) (unary_type op (value_of a.0)) y a.2 in
      subst (λ (y : ExprTree). meant env.known (node s t (unary op x)) ≡ meant env.known y) j.2 (ap (of_unary op) (same_meant env x a.0 a.1))
  same_kind env s t (binary op x z) y h =
      let a = parts_of (typed env no_locals x) (λ a. typed env no_locals z >>= binary_node env.known s op a) y h in
      let b = parts_of (typed env no_locals z) (binary_node env.known s op a.0) y a.2 in
      let j = judged_has s (binary_rule op (value_of a.0) (value_of b.0)) (binary op a.0 b.0) (binary_type env.known op (is_zero env.known a.0) (is_zero env.known b.0) (value_of a.0) (value_of b.0)) y b.2 in
      subst (λ (y : ExprTree). meant env.known (node s t (binary op x z)) ≡ meant env.known y) j.2
      (ap (λ q. of_binary env.known op q (meant env.known z)) (same_meant env x a.0 a.1) ∙ ap (of_binary env.known op (meant env.known a.0)) (same_meant env z b.0 b.1))
  same_kind env s t (cond w x z) y h =
      let d = parts_of (typed env no_locals w) (λ d. typed env no_locals x >>= (λ a. typed env no_locals z >>= cond_node env.known s d a)) y h in
      let a = parts_of (typed env no_locals x) (λ a. typed env no_locals z >>= cond_node env.known s d.0 a) y d.2 in
      let b = parts_of (typed env no_locals z) (cond_node env.known s d.0 a.0) y a.2 in
      let p = chosen s (is_scalar (value_of d.0)) (judged s 15 (cond d.0 a.0 b.0) (arms_type (is_zero env.known a.0) (is_zero env.known b.0) (value_of a.0) (value_of b.0))) y b.2 in
      let j = judged_has s 15 (cond d.0 a.0 b.0) (arms_type (is_zero env.known a.0) (is_zero env.known b.0) (value_of a.0) (value_of b.0)) y p.1 in
      subst (λ (y : ExprTree). meant env.known (node s t (cond w x z)) ≡ meant env.known y) j.2
      (ap (λ q. of_cond q (meant env.known x) (meant env.known z)) (same_meant env w d.0 d.1)
      ∙ ap (λ q. of_cond (meant env.known d.0) q (meant env.known z)) (same_meant env x a.0 a.1)
      ∙ ap (of_cond (meant env.known d.0) (meant env.known a.0)) (same_meant env z b.0 b.1))
  same_kind env s t (cast w x) y h =
      let a = parts_of (typed env no_locals x) (cast_node s w) y h in
      let j = judged_has s 7 (cast w a.0) (cast_type w (value_of a.0)) y a.2 in
      subst (λ (y : ExprTree). meant env.known (node s t (cast w x)) ≡ meant env.known y) j.2 (ap (of_cast w) (same_meant env x a.0 a.1))
  same_kind env s t (size_of w) y h =
      let j = judged_has s (size_rule env.known w) (size_of w) (size_type env.known w) y h in
      subst (λ (y : ExprTree). meant env.known (node s t (size_of w)) ≡ meant env.known y) j.2 refl
  same_kind env s t (size_of_expr x) y h =
      let a = parts_of (typed env no_locals x) (size_of_node env.known s) y h in
      let j = judged_has s (size_rule env.known (type_of a.0)) (size_of_expr a.0) (size_type env.known (type_of a.0)) y a.2 in
      subst (λ (y : ExprTree). meant env.known (node s t (size_of_expr x)) ≡ meant env.known y) j.2 refl
  same_kind env s t (index x z) y h =
      let a = parts_of (typed env no_locals x) (λ a. typed env no_locals z >>= index_node env.known s a) y h in
      let b = parts_of (typed env no_locals z) (index_node env.known s a.0) y a.2 in
      let j = judged_has s (index_rule (element_of env.known a.0 b.0)) (index a.0 b.0) (if_sized env.known (element_of env.known a.0 b.0)) y b.2 in
      subst (λ (y : ExprTree). meant env.known (node s t (index x z)) ≡ meant env.known y) j.2 refl
  same_kind env s t (member x m) y h =
      let a = parts_of (typed env no_locals x) (λ a. member_node env.known s a m) y h in
      let j = judged_has s (member_rule env.known (type_of a.0) m) (member a.0 m) (placed_member env.known (type_of a.0) m) y a.2 in
      subst (λ (y : ExprTree). meant env.known (node s t (member x m)) ≡ meant env.known y) j.2 refl
  same_kind env s t (arrow x m) y h =
      let a = parts_of (typed env no_locals x) (λ a. arrow_node env.known s a m) y h in
      let p = pointed env s a.0 m (target_of env.known a.0) y a.2 in
      subst (λ (y : ExprTree). meant env.known (node s t (arrow x m)) ≡ meant env.known y) p.2.2 refl
  same_kind env s t (deref x) y h =
      let a = parts_of (typed env no_locals x) (deref_node env.known s) y h in
      let j = judged_has s 3 (deref a.0) (target_of env.known a.0) y a.2 in
      subst (λ (y : ExprTree). meant env.known (node s t (deref x)) ≡ meant env.known y) j.2 refl
  same_kind env s t (address x) y h =
      let a = parts_of (typed env no_locals x) (address_node s) y h in
      let j = judged_has s 5 (address a.0) (if_true (in_memory a.0) (pointer (type_of a.0))) y a.2 in
      subst (λ (y : ExprTree). meant env.known (node s t (address x)) ≡ meant env.known y) j.2 refl

pub same_constant : (env : Declared) (x y : ExprTree) → typed env no_locals x ≡ Ok y → c.constant_in env.known x ≡ c.constant_in env.known y
same_constant env x y h = ap (λ q. if option_map_or c.is_int q.ctype false then q.value else None) (same_meant env x y h)
