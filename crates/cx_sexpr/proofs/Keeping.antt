-- An expression that is given its types keeps the rules on types in each part.
use Rattle.std.proofs.Common.{◌≡◌, ℕ, refl, subst, Bool, true, false, Option, None, Some}
use Rattle.std.specs.Prelude.{Result, Ok, Err, IfOk, slice_get, if◌then◌else◌}
use Rattle.cx_base.specs.declared.span.Span.{Span}
use Rattle.cx_ctree.specs.Types.{TypeTree, pointer}
use Rattle.cx_ctree.specs.Exprs.{ExprTree, node, type_of, ExprKindTree, num, name, local, global, unary, binary, cond, cast, size_of, size_of_expr, index, member, arrow, deref, address}
use Rattle.cx_cname.specs.Known.{Meaning, a_type, a_constant, an_object, a_function}
use Rattle.cx_ctype.specs.Operations.{is_scalar, is_zero, if_true, unary_type, binary_type, arms_type, cast_type}
use Rattle.cx_ctype.specs.Accesses.{size_type, if_sized, in_memory}
use Rattle.cx_ctype.specs.Rules.{unary_rule, binary_rule}
use Rattle.cx_sname.specs.File.{Declared, meaning_of}
use Rattle.cx_scope.specs.Locals.{Locals, local_of}
use Rattle.cx_snode.specs.declared.fault.SemaFault.{SemaFault}
use Rattle.cx_snode.specs.Judging.{Judged, breaks, ◌>>=◌, Gives}
use Rattle.cx_snode.specs.Nodes.{value_of, judged, unary_node, binary_node, cond_node, cast_node, size_of_node, index_node, member_node, arrow_node, arrow_to, deref_node, address_node, element_of, target_of, placed_member, member_rule, size_rule, index_rule}
use Rattle.cx_snode.proofs.Judged.{parts_of, ok_same}
use Rattle.cx_sexpr.specs.Typing.{typed, typed_kind, name_node, local_node, declared_node}
use Rattle.cx_sexpr.specs.Kept.{IsTyped}

pub judged_has : (s : Span) (rule : ℕ) (k : ExprKindTree) (o : Option TypeTree) (y : ExprTree) → judged s rule k o ≡ Ok y → (t : TypeTree) × (o ≡ Some t) × (node s t k ≡ y)
judged_has s rule k None y h = absurd cc
judged_has s rule k (Some t) y h = (t, refl, ok_same _ _ h)

meant : (env : Declared) (ls : Locals) (s : Span) (n : ℕ) (m : Option Meaning) (y : ExprTree) → meaning_of env n ≡ m → declared_node s n m ≡ Ok y → IsTyped env ls.types y
meant env ls s n None y e h = absurd cc
meant env ls s n (Some (a_type t)) y e h = absurd cc
meant env ls s n (Some (a_constant v)) y e h = subst (IsTyped env ls.types) (ok_same _ _ h) refl
meant env ls s n (Some (an_object t)) y e h = subst (IsTyped env ls.types) (ok_same _ _ h) e
meant env ls s n (Some (a_function r ps)) y e h = absurd cc

found : (env : Declared) (ls : Locals) (s : Span) (x : ℕ) (t : Option TypeTree) (y : ExprTree) → slice_get ls.types x ≡ t → local_node s x t ≡ Ok y → IsTyped env ls.types y
found env ls s x None y e h = absurd cc
found env ls s x (Some t) y e h = subst (IsTyped env ls.types) (ok_same _ _ h) e

named : (env : Declared) (ls : Locals) (s : Span) (n : ℕ) (x : Option ℕ) (y : ExprTree) → name_node env ls s n x ≡ Ok y → IsTyped env ls.types y
named env ls s n None y h = meant env ls s n (meaning_of env n) y refl h
named env ls s n (Some x) y h = found env ls s x (slice_get ls.types x) y refl h

-- a conditional whose condition is scalar
pub chosen : (s : Span) (b : Bool) (j : Judged ExprTree) (y : ExprTree) → (if b then j else breaks s 14) ≡ Ok y → (b ≡ true) × (j ≡ Ok y)
chosen s true j y h = (refl, h)
chosen s false j y h = absurd cc

in_memory_has : (b : Bool) (t w : TypeTree) → if_true b t ≡ Some w → (b ≡ true) × (w ≡ t)
in_memory_has true t w h = (refl, cc)
in_memory_has false t w h = absurd cc

pub pointed : (env : Declared) (s : Span) (x : ExprTree) (m : ℕ) (o : Option TypeTree) (y : ExprTree) → arrow_to env.known s x m o ≡ Ok y
    → (w : TypeTree) × (o ≡ Some w) × ((t : TypeTree) × (placed_member env.known w m ≡ Some t) × (node s t (arrow x m) ≡ y))
pointed env s x m None y h = absurd cc
pointed env s x m (Some w) y h = (w, refl, judged_has s (member_rule env.known w m) (arrow x m) (placed_member env.known w m) y h)

mutual
  pub typed_keeps : (env : Declared) (ls : Locals) (x y : ExprTree) → typed env ls x ≡ Ok y → IsTyped env ls.types y
  typed_keeps env ls (node s t k) y h = kind_keeps env ls s k y h

  kind_keeps : (env : Declared) (ls : Locals) (s : Span) (k : ExprKindTree) (y : ExprTree) → typed_kind env ls s k ≡ Ok y → IsTyped env ls.types y
  kind_keeps env ls s (num v t) y h = subst (IsTyped env ls.types) (ok_same _ _ h) refl
  kind_keeps env ls s (name n) y h = named env ls s n (local_of ls n) y h
  kind_keeps env ls s (local x) y h = absurd cc
  kind_keeps env ls s (global n) y h = absurd cc
  kind_keeps env ls s (unary op x) y h =
      let a = parts_of (typed env ls x) (unary_node s op) y h in
      let j = judged_has s (unary_rule op) (unary op a.0) (unary_type op (value_of a.0)) y a.2 in
      subst (IsTyped env ls.types) j.2 (typed_keeps env ls x a.0 a.1, j.1)
  kind_keeps env ls s (binary op x z) y h =
      let a = parts_of (typed env ls x) (λ a. typed env ls z >>= binary_node env.known s op a) y h in
      let b = parts_of (typed env ls z) (binary_node env.known s op a.0) y a.2 in
      let j = judged_has s (binary_rule op (value_of a.0) (value_of b.0)) (binary op a.0 b.0) (binary_type env.known op (is_zero env.known a.0) (is_zero env.known b.0) (value_of a.0) (value_of b.0)) y b.2 in
      subst (IsTyped env ls.types) j.2 (typed_keeps env ls x a.0 a.1, typed_keeps env ls z b.0 b.1, j.1)
  kind_keeps env ls s (cond c x z) y h =
      let d = parts_of (typed env ls c) (λ d. typed env ls x >>= (λ a. typed env ls z >>= cond_node env.known s d a)) y h in
      let a = parts_of (typed env ls x) (λ a. typed env ls z >>= cond_node env.known s d.0 a) y d.2 in
      let b = parts_of (typed env ls z) (cond_node env.known s d.0 a.0) y a.2 in
      let p = chosen s (is_scalar (value_of d.0)) (judged s 15 (cond d.0 a.0 b.0) (arms_type (is_zero env.known a.0) (is_zero env.known b.0) (value_of a.0) (value_of b.0))) y b.2 in
      let j = judged_has s 15 (cond d.0 a.0 b.0) (arms_type (is_zero env.known a.0) (is_zero env.known b.0) (value_of a.0) (value_of b.0)) y p.1 in
      subst (IsTyped env ls.types) j.2 (typed_keeps env ls c d.0 d.1, typed_keeps env ls x a.0 a.1, typed_keeps env ls z b.0 b.1, p.0, j.1)
  kind_keeps env ls s (cast t x) y h =
      let a = parts_of (typed env ls x) (cast_node s t) y h in
      let j = judged_has s 7 (cast t a.0) (cast_type t (value_of a.0)) y a.2 in
      subst (IsTyped env ls.types) j.2 (typed_keeps env ls x a.0 a.1, j.1)
  kind_keeps env ls s (size_of t) y h =
      let j = judged_has s (size_rule env.known t) (size_of t) (size_type env.known t) y h in
      subst (IsTyped env ls.types) j.2 j.1
  kind_keeps env ls s (size_of_expr x) y h =
      let a = parts_of (typed env ls x) (size_of_node env.known s) y h in
      let j = judged_has s (size_rule env.known (type_of a.0)) (size_of_expr a.0) (size_type env.known (type_of a.0)) y a.2 in
      subst (IsTyped env ls.types) j.2 (typed_keeps env ls x a.0 a.1, j.1)
  kind_keeps env ls s (index x z) y h =
      let a = parts_of (typed env ls x) (λ a. typed env ls z >>= index_node env.known s a) y h in
      let b = parts_of (typed env ls z) (index_node env.known s a.0) y a.2 in
      let j = judged_has s (index_rule (element_of env.known a.0 b.0)) (index a.0 b.0) (if_sized env.known (element_of env.known a.0 b.0)) y b.2 in
      subst (IsTyped env ls.types) j.2 (typed_keeps env ls x a.0 a.1, typed_keeps env ls z b.0 b.1, j.1)
  kind_keeps env ls s (member x m) y h =
      let a = parts_of (typed env ls x) (λ a. member_node env.known s a m) y h in
      let j = judged_has s (member_rule env.known (type_of a.0) m) (member a.0 m) (placed_member env.known (type_of a.0) m) y a.2 in
      subst (IsTyped env ls.types) j.2 (typed_keeps env ls x a.0 a.1, j.1)
  kind_keeps env ls s (arrow x m) y h =
      let a = parts_of (typed env ls x) (λ a. arrow_node env.known s a m) y h in
      let p = pointed env s a.0 m (target_of env.known a.0) y a.2 in
      subst (IsTyped env ls.types) p.2.2 (typed_keeps env ls x a.0 a.1, p.0, p.1, p.2.1)
  kind_keeps env ls s (deref x) y h =
      let a = parts_of (typed env ls x) (deref_node env.known s) y h in
      let j = judged_has s 3 (deref a.0) (target_of env.known a.0) y a.2 in
      subst (IsTyped env ls.types) j.2 (typed_keeps env ls x a.0 a.1, j.1)
  kind_keeps env ls s (address x) y h =
      let a = parts_of (typed env ls x) (address_node s) y h in
      let j = judged_has s 5 (address a.0) (if_true (in_memory a.0) (pointer (type_of a.0))) y a.2 in
      let p = in_memory_has (in_memory a.0) (pointer (type_of a.0)) j.0 j.1 in
      subst (IsTyped env ls.types) j.2 (typed_keeps env ls x a.0 a.1, p.0, p.1)

-- so does each answer of the walk
pub answer_keeps : {A : Type 0} (view : A → ExprTree) (r : Result A SemaFault) (env : Declared) (ls : Locals) (x : ExprTree) → Gives view r (typed env ls x) → IfOk r (λ y. IsTyped env ls.types (view y))
answer_keeps view (Ok a) env ls x h = typed_keeps env ls x (view a) h
answer_keeps view (Err e) env ls x h = tt
