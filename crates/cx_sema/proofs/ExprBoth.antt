-- The walk gives an expression its types exactly where the rules do.
use Rattle.std.proofs.Common.{◌≡◌, ℕ, refl, ap, sym, ◌∙◌, Bool, true, false, Option, None, Some}
use Rattle.std.specs.Prelude.{Ok, slice_get, if◌then◌else◌}
use Rattle.cx_base.specs.declared.span.Span.{Span}
use Rattle.cx_ctree.specs.Types.{TypeTree, pointer}
use Rattle.cx_ctree.specs.Exprs.{ExprTree, node, type_of, ExprKindTree, num, name, local, global, unary, binary, cond, cast, size_of, size_of_expr, index, member, arrow, deref, address}
use Rattle.cx_cname.specs.Known.{Meaning, a_type, a_constant, an_object, a_function}
use Rattle.cx_ctype.specs.Operations.{is_scalar, is_zero, if_true, unary_type, binary_type, arms_type, cast_type}
use Rattle.cx_ctype.specs.Accesses.{size_type, if_sized, in_memory}
use Rattle.cx_ctype.specs.Rules.{unary_rule, binary_rule}
use Rattle.cx_sname.specs.File.{Declared, meaning_of}
use Rattle.cx_scope.specs.Locals.{Locals, local_of}
use Rattle.cx_snode.specs.Judging.{Judged, breaks, ◌>>=◌}
use Rattle.cx_snode.specs.Nodes.{value_of, judged, unary_node, binary_node, cond_node, cast_node, size_of_node, index_node, member_node, arrow_node, arrow_to, deref_node, address_node, element_of, target_of, placed_member, member_rule, size_rule, index_rule}
use Rattle.cx_snode.proofs.Judged.{parts_of, ok_same, gives_then}
use Rattle.cx_sexpr.specs.Typing.{typed, typed_kind, name_node, local_node, declared_node}
use Rattle.cx_sema.specs.ExprRules.{StandsFor, IsNamed, HasTypes, HasTypesAs}

-- ---- what the walk gives

judged_has : (s : Span) (rule : ℕ) (k : ExprKindTree) (o : Option TypeTree) (y : ExprTree) → judged s rule k o ≡ Ok y → (t : TypeTree) × (o ≡ Some t) × (node s t k ≡ y)
judged_has s rule k None y h = absurd cc
judged_has s rule k (Some t) y h = (t, refl, ok_same _ _ h)

-- a conditional whose condition is scalar
chosen : (s : Span) (b : Bool) (j : Judged ExprTree) (y : ExprTree) → (if b then j else breaks s 14) ≡ Ok y → (b ≡ true) × (j ≡ Ok y)
chosen s true j y h = (refl, h)
chosen s false j y h = absurd cc

in_memory_has : (b : Bool) (t w : TypeTree) → if_true b t ≡ Some w → (b ≡ true) × (w ≡ t)
in_memory_has true t w h = (refl, cc)
in_memory_has false t w h = absurd cc

pointed : (env : Declared) (s : Span) (x : ExprTree) (m : ℕ) (o : Option TypeTree) (y : ExprTree) → arrow_to env.known s x m o ≡ Ok y
    → (w : TypeTree) × (o ≡ Some w) × ((t : TypeTree) × (placed_member env.known w m ≡ Some t) × (node s t (arrow x m) ≡ y))
pointed env s x m None y h = absurd cc
pointed env s x m (Some w) y h = (w, refl, judged_has s (member_rule env.known w m) (arrow x m) (placed_member env.known w m) y h)

stands : (s : Span) (n : ℕ) (m : Option Meaning) (y : ExprTree) → declared_node s n m ≡ Ok y → StandsFor s n m y
stands s n None y h = absurd cc
stands s n (Some (a_type t)) y h = absurd cc
stands s n (Some (a_constant v)) y h = sym (ok_same _ y h)
stands s n (Some (an_object t)) y h = sym (ok_same _ y h)
stands s n (Some (a_function r ps)) y h = absurd cc

local_is : (s : Span) (x : ℕ) (t : Option TypeTree) (y : ExprTree) → local_node s x t ≡ Ok y → (w : TypeTree) × (t ≡ Some w) × (y ≡ node s w (local x))
local_is s x None y h = absurd cc
local_is s x (Some t) y h = (t, refl, sym (ok_same _ y h))

is_named : (env : Declared) (ls : Locals) (s : Span) (n : ℕ) (x : Option ℕ) (y : ExprTree) → name_node env ls s n x ≡ Ok y → IsNamed env ls s n x y
is_named env ls s n None y h = stands s n (meaning_of env n) y h
is_named env ls s n (Some x) y h = local_is s x (slice_get ls.types x) y h

mutual
  pub has_types : (env : Declared) (ls : Locals) (x y : ExprTree) → typed env ls x ≡ Ok y → HasTypes env ls x y
  has_types env ls (node s w k) y h = kind_has env ls s k y h

  kind_has : (env : Declared) (ls : Locals) (s : Span) (k : ExprKindTree) (y : ExprTree) → typed_kind env ls s k ≡ Ok y → HasTypesAs env ls s k y
  kind_has env ls s (num v w) y h = sym (ok_same _ y h)
  kind_has env ls s (name n) y h = is_named env ls s n (local_of ls n) y h
  kind_has env ls s (local x) y h = absurd cc
  kind_has env ls s (global n) y h = absurd cc
  kind_has env ls s (unary op x) y h =
      let a = parts_of (typed env ls x) (unary_node s op) y h in
      let j = judged_has s (unary_rule op) (unary op a.0) (unary_type op (value_of a.0)) y a.2 in
      (a.0, has_types env ls x a.0 a.1, j.0, j.1, sym j.2)
  kind_has env ls s (binary op x z) y h =
      let a = parts_of (typed env ls x) (λ a. typed env ls z >>= binary_node env.known s op a) y h in
      let b = parts_of (typed env ls z) (binary_node env.known s op a.0) y a.2 in
      let j = judged_has s (binary_rule op (value_of a.0) (value_of b.0)) (binary op a.0 b.0) (binary_type env.known op (is_zero env.known a.0) (is_zero env.known b.0) (value_of a.0) (value_of b.0)) y b.2 in
      (a.0, has_types env ls x a.0 a.1, b.0, has_types env ls z b.0 b.1, j.0, j.1, sym j.2)
  kind_has env ls s (cond c x z) y h =
      let d = parts_of (typed env ls c) (λ d. typed env ls x >>= (λ a. typed env ls z >>= cond_node env.known s d a)) y h in
      let a = parts_of (typed env ls x) (λ a. typed env ls z >>= cond_node env.known s d.0 a) y d.2 in
      let b = parts_of (typed env ls z) (cond_node env.known s d.0 a.0) y a.2 in
      let p = chosen s (is_scalar (value_of d.0)) (judged s 15 (cond d.0 a.0 b.0) (arms_type (is_zero env.known a.0) (is_zero env.known b.0) (value_of a.0) (value_of b.0))) y b.2 in
      let j = judged_has s 15 (cond d.0 a.0 b.0) (arms_type (is_zero env.known a.0) (is_zero env.known b.0) (value_of a.0) (value_of b.0)) y p.1 in
      (d.0, has_types env ls c d.0 d.1, a.0, has_types env ls x a.0 a.1, b.0, has_types env ls z b.0 b.1, p.0, j.0, j.1, sym j.2)
  kind_has env ls s (cast w x) y h =
      let a = parts_of (typed env ls x) (cast_node s w) y h in
      let j = judged_has s 7 (cast w a.0) (cast_type w (value_of a.0)) y a.2 in
      (a.0, has_types env ls x a.0 a.1, j.0, j.1, sym j.2)
  kind_has env ls s (size_of w) y h =
      let j = judged_has s (size_rule env.known w) (size_of w) (size_type env.known w) y h in
      (j.0, j.1, sym j.2)
  kind_has env ls s (size_of_expr x) y h =
      let a = parts_of (typed env ls x) (size_of_node env.known s) y h in
      let j = judged_has s (size_rule env.known (type_of a.0)) (size_of_expr a.0) (size_type env.known (type_of a.0)) y a.2 in
      (a.0, has_types env ls x a.0 a.1, j.0, j.1, sym j.2)
  kind_has env ls s (index x z) y h =
      let a = parts_of (typed env ls x) (λ a. typed env ls z >>= index_node env.known s a) y h in
      let b = parts_of (typed env ls z) (index_node env.known s a.0) y a.2 in
      let j = judged_has s (index_rule (element_of env.known a.0 b.0)) (index a.0 b.0) (if_sized env.known (element_of env.known a.0 b.0)) y b.2 in
      (a.0, has_types env ls x a.0 a.1, b.0, has_types env ls z b.0 b.1, j.0, j.1, sym j.2)
  kind_has env ls s (member x m) y h =
      let a = parts_of (typed env ls x) (λ a. member_node env.known s a m) y h in
      let j = judged_has s (member_rule env.known (type_of a.0) m) (member a.0 m) (placed_member env.known (type_of a.0) m) y a.2 in
      (a.0, has_types env ls x a.0 a.1, j.0, j.1, sym j.2)
  kind_has env ls s (arrow x m) y h =
      let a = parts_of (typed env ls x) (λ a. arrow_node env.known s a m) y h in
      let p = pointed env s a.0 m (target_of env.known a.0) y a.2 in
      (a.0, has_types env ls x a.0 a.1, p.0, p.1, p.2.0, p.2.1, sym p.2.2)
  kind_has env ls s (deref x) y h =
      let a = parts_of (typed env ls x) (deref_node env.known s) y h in
      let j = judged_has s 3 (deref a.0) (target_of env.known a.0) y a.2 in
      (a.0, has_types env ls x a.0 a.1, j.0, j.1, sym j.2)
  kind_has env ls s (address x) y h =
      let a = parts_of (typed env ls x) (address_node s) y h in
      let j = judged_has s 5 (address a.0) (if_true (in_memory a.0) (pointer (type_of a.0))) y a.2 in
      let p = in_memory_has (in_memory a.0) (pointer (type_of a.0)) j.0 j.1 in
      (a.0, has_types env ls x a.0 a.1, p.0, sym j.2 ∙ ap (λ t. node s t (address a.0)) p.1)

-- ---- what the rules give

judged_is : (s : Span) (rule : ℕ) (k : ExprKindTree) (o : Option TypeTree) (t : TypeTree) (y : ExprTree) → o ≡ Some t → y ≡ node s t k → judged s rule k o ≡ Ok y
judged_is s rule k o t y e p = ap (judged s rule k) e ∙ ap Ok (sym p)

meaning_is : (s : Span) (n : ℕ) (m : Option Meaning) (y : ExprTree) → StandsFor s n m y → declared_node s n m ≡ Ok y
meaning_is s n None y h = absurd h
meaning_is s n (Some (a_type t)) y h = absurd h
meaning_is s n (Some (a_constant v)) y h = ap Ok (sym h)
meaning_is s n (Some (an_object t)) y h = ap Ok (sym h)
meaning_is s n (Some (a_function r ps)) y h = absurd h

name_is : (env : Declared) (ls : Locals) (s : Span) (n : ℕ) (x : Option ℕ) (y : ExprTree) → IsNamed env ls s n x y → name_node env ls s n x ≡ Ok y
name_is env ls s n None y h = meaning_is s n (meaning_of env n) y h
name_is env ls s n (Some x) y h = ap (local_node s x) h.1 ∙ ap Ok (sym h.2)

scalar_then : (s : Span) (b : Bool) (j : Judged ExprTree) → b ≡ true → (if b then j else breaks s 14) ≡ j
scalar_then s true j e = refl
scalar_then s false j e = absurd cc

mutual
  pub types_are : (env : Declared) (ls : Locals) (x y : ExprTree) → HasTypes env ls x y → typed env ls x ≡ Ok y
  types_are env ls (node s w k) y h = kind_are env ls s k y h

  kind_are : (env : Declared) (ls : Locals) (s : Span) (k : ExprKindTree) (y : ExprTree) → HasTypesAs env ls s k y → typed_kind env ls s k ≡ Ok y
  kind_are env ls s (num v w) y h = ap Ok (sym h)
  kind_are env ls s (name n) y h = name_is env ls s n (local_of ls n) y h
  kind_are env ls s (local x) y h = absurd h
  kind_are env ls s (global n) y h = absurd h
  kind_are env ls s (unary op x) y h =
      gives_then (typed env ls x) h.0 (unary_node s op) (types_are env ls x h.0 h.1)
      ∙ judged_is s (unary_rule op) (unary op h.0) (unary_type op (value_of h.0)) h.2 y h.3 h.4
  kind_are env ls s (binary op x z) y h =
      gives_then (typed env ls x) h.0 (λ a. typed env ls z >>= binary_node env.known s op a) (types_are env ls x h.0 h.1)
      ∙ gives_then (typed env ls z) h.2 (binary_node env.known s op h.0) (types_are env ls z h.2 h.3)
      ∙ judged_is s (binary_rule op (value_of h.0) (value_of h.2)) (binary op h.0 h.2) (binary_type env.known op (is_zero env.known h.0) (is_zero env.known h.2) (value_of h.0) (value_of h.2)) h.4 y h.5 h.6
  kind_are env ls s (cond c x z) y h =
      gives_then (typed env ls c) h.0 (λ d. typed env ls x >>= (λ a. typed env ls z >>= cond_node env.known s d a)) (types_are env ls c h.0 h.1)
      ∙ gives_then (typed env ls x) h.2 (λ a. typed env ls z >>= cond_node env.known s h.0 a) (types_are env ls x h.2 h.3)
      ∙ gives_then (typed env ls z) h.4 (cond_node env.known s h.0 h.2) (types_are env ls z h.4 h.5)
      ∙ scalar_then s (is_scalar (value_of h.0)) (judged s 15 (cond h.0 h.2 h.4) (arms_type (is_zero env.known h.2) (is_zero env.known h.4) (value_of h.2) (value_of h.4))) h.6
      ∙ judged_is s 15 (cond h.0 h.2 h.4) (arms_type (is_zero env.known h.2) (is_zero env.known h.4) (value_of h.2) (value_of h.4)) h.7 y h.8 h.9
  kind_are env ls s (cast w x) y h =
      gives_then (typed env ls x) h.0 (cast_node s w) (types_are env ls x h.0 h.1)
      ∙ judged_is s 7 (cast w h.0) (cast_type w (value_of h.0)) h.2 y h.3 h.4
  kind_are env ls s (size_of w) y h = judged_is s (size_rule env.known w) (size_of w) (size_type env.known w) h.0 y h.1 h.2
  kind_are env ls s (size_of_expr x) y h =
      gives_then (typed env ls x) h.0 (size_of_node env.known s) (types_are env ls x h.0 h.1)
      ∙ judged_is s (size_rule env.known (type_of h.0)) (size_of_expr h.0) (size_type env.known (type_of h.0)) h.2 y h.3 h.4
  kind_are env ls s (index x z) y h =
      gives_then (typed env ls x) h.0 (λ a. typed env ls z >>= index_node env.known s a) (types_are env ls x h.0 h.1)
      ∙ gives_then (typed env ls z) h.2 (index_node env.known s h.0) (types_are env ls z h.2 h.3)
      ∙ judged_is s (index_rule (element_of env.known h.0 h.2)) (index h.0 h.2) (if_sized env.known (element_of env.known h.0 h.2)) h.4 y h.5 h.6
  kind_are env ls s (member x m) y h =
      gives_then (typed env ls x) h.0 (λ a. member_node env.known s a m) (types_are env ls x h.0 h.1)
      ∙ judged_is s (member_rule env.known (type_of h.0) m) (member h.0 m) (placed_member env.known (type_of h.0) m) h.2 y h.3 h.4
  kind_are env ls s (arrow x m) y h =
      gives_then (typed env ls x) h.0 (λ a. arrow_node env.known s a m) (types_are env ls x h.0 h.1)
      ∙ ap (arrow_to env.known s h.0 m) h.3
      ∙ judged_is s (member_rule env.known h.2 m) (arrow h.0 m) (placed_member env.known h.2 m) h.4 y h.5 h.6
  kind_are env ls s (deref x) y h =
      gives_then (typed env ls x) h.0 (deref_node env.known s) (types_are env ls x h.0 h.1)
      ∙ judged_is s 3 (deref h.0) (target_of env.known h.0) h.2 y h.3 h.4
  kind_are env ls s (address x) y h =
      gives_then (typed env ls x) h.0 (address_node s) (types_are env ls x h.0 h.1)
      ∙ judged_is s 5 (address h.0) (if_true (in_memory h.0) (pointer (type_of h.0))) (pointer (type_of h.0)) y (ap (λ b. if_true b (pointer (type_of h.0))) h.2) h.3
