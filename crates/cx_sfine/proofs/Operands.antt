-- The operands that an operator takes, and the type of what it gives.
use Rattle.std.proofs.Common.{◌≡◌, Bool, true, false, Some, refl, subst}
use Rattle.std.specs.Prelude.{is_some, ◌&&◌}
use Rattle.cx_ctree.specs.Conversions.{signed_int, signed_long, common, promoted}
use Rattle.cx_ctree.specs.Types.{TypeTree, void, int, pointer, array, tag}
use Rattle.cx_ctree.specs.declared.expr.Binary.{Binary}
use Rattle.cx_ctree.specs.declared.expr.Binary.TheVariants as b
use Rattle.cx_ctree.specs.declared.expr.Unary.{Unary}
use Rattle.cx_ctree.specs.declared.expr.Unary.TheVariants as u
use Rattle.cx_cname.specs.Known.{Known}
use Rattle.cx_cname.specs.Meanings.{same_type}
use Rattle.cx_cmean.specs.Numbers as mean
use Rattle.cx_ctype.specs.Operations.{value_type, is_scalar, unit, if_true, promoted_type, unary_type, common_type, shifted_type, sum_type, same_size, difference_type, compared_type, binary_type, arm_pointers, arms_type, cast_type, is_compound, is_move, is_updatable}
use Rattle.cx_ctype.specs.Accesses.{element}
use Rattle.cx_lcode.specs.Places.{computing, sort_of}
use Rattle.cx_lright.specs.Fine as fine

pub same_value : (t : TypeTree) → mean.value_type t ≡ value_type t
same_value void = refl
same_value (int t) = refl
same_value (pointer t) = refl
same_value (array t nt) = refl
same_value (tag t) = refl

pub same_scalar : (t : TypeTree) → is_scalar t ≡ true → fine.is_scalar t ≡ true
same_scalar void h = absurd cc
same_scalar (int t) h = refl
same_scalar (pointer t) h = refl
same_scalar (array t nt) h = absurd cc
same_scalar (tag t) h = absurd cc

pub scalar_taken : (t : TypeTree) → is_scalar t ≡ true → fine.is_void t ≡ false
scalar_taken void h = absurd cc
scalar_taken (int t) h = refl
scalar_taken (pointer t) h = refl
scalar_taken (array t nt) h = refl
scalar_taken (tag t) h = refl

-- ---- what is given is scalar

scalar_some : (t r : TypeTree) → is_scalar t ≡ true → Some t ≡ Some r → is_scalar r ≡ true
scalar_some t r e h = let same : t ≡ r = cc in subst (λ (t : TypeTree). is_scalar t ≡ true) same e

scalar_if : (b : Bool) (t r : TypeTree) → is_scalar t ≡ true → if_true b t ≡ Some r → is_scalar r ≡ true
scalar_if true t r e h = scalar_some t r e h
scalar_if false t r e h = absurd cc

pub cast_scalar : (t w r : TypeTree) → cast_type t w ≡ Some r → is_scalar r ≡ true
cast_scalar t w r h = both_scalar (is_scalar t) (is_scalar w) t r refl h
  where
    both_scalar : (b c : Bool) (t r : TypeTree) → is_scalar t ≡ b → if_true (b && c) t ≡ Some r → is_scalar r ≡ true
    both_scalar true c t r e h = scalar_if c t r e h
    both_scalar false c t r e h = absurd cc

promoted_scalar : (t r : TypeTree) → promoted_type t ≡ Some r → is_scalar r ≡ true
promoted_scalar void r h = absurd cc
promoted_scalar (int t) r h = scalar_some (int (promoted t)) r refl h
promoted_scalar (pointer t) r h = absurd cc
promoted_scalar (array t nt) r h = absurd cc
promoted_scalar (tag t) r h = absurd cc

pub unary_scalar : (op : Unary) (t r : TypeTree) → unary_type op t ≡ Some r → is_scalar r ≡ true
unary_scalar u.Plus t r h = promoted_scalar t r h
unary_scalar u.Neg t r h = promoted_scalar t r h
unary_scalar u.Compl t r h = promoted_scalar t r h
unary_scalar u.Not t r h = scalar_if (is_scalar t) (int signed_int) r refl h

-- ---- operators with two operands

-- the operator takes such operands, and what it gives is scalar
abbrev Takes : Binary → (t w r : TypeTree) → Type 0
Takes op t w r = (fine.takes op t w ≡ true) × (is_scalar r ≡ true)

common_takes : (op : Binary) (t w r : TypeTree) → common_type t w ≡ Some r → Takes op t w r
common_takes op void void r h = absurd cc
common_takes op void (int w) r h = absurd cc
common_takes op void (pointer w) r h = absurd cc
common_takes op void (array w nw) r h = absurd cc
common_takes op void (tag w) r h = absurd cc
common_takes op (int t) void r h = absurd cc
common_takes op (int t) (int w) r h = (refl, scalar_some (int (common t w)) r refl h)
common_takes op (int t) (pointer w) r h = absurd cc
common_takes op (int t) (array w nw) r h = absurd cc
common_takes op (int t) (tag w) r h = absurd cc
common_takes op (pointer t) void r h = absurd cc
common_takes op (pointer t) (int w) r h = absurd cc
common_takes op (pointer t) (pointer w) r h = absurd cc
common_takes op (pointer t) (array w nw) r h = absurd cc
common_takes op (pointer t) (tag w) r h = absurd cc
common_takes op (array t nt) void r h = absurd cc
common_takes op (array t nt) (int w) r h = absurd cc
common_takes op (array t nt) (pointer w) r h = absurd cc
common_takes op (array t nt) (array w nw) r h = absurd cc
common_takes op (array t nt) (tag w) r h = absurd cc
common_takes op (tag t) void r h = absurd cc
common_takes op (tag t) (int w) r h = absurd cc
common_takes op (tag t) (pointer w) r h = absurd cc
common_takes op (tag t) (array w nw) r h = absurd cc
common_takes op (tag t) (tag w) r h = absurd cc

shift_takes : (op : Binary) (t w r : TypeTree) → shifted_type t w ≡ Some r → Takes op t w r
shift_takes op void void r h = absurd cc
shift_takes op void (int w) r h = absurd cc
shift_takes op void (pointer w) r h = absurd cc
shift_takes op void (array w nw) r h = absurd cc
shift_takes op void (tag w) r h = absurd cc
shift_takes op (int t) void r h = absurd cc
shift_takes op (int t) (int w) r h = (refl, scalar_some (int (promoted t)) r refl h)
shift_takes op (int t) (pointer w) r h = absurd cc
shift_takes op (int t) (array w nw) r h = absurd cc
shift_takes op (int t) (tag w) r h = absurd cc
shift_takes op (pointer t) void r h = absurd cc
shift_takes op (pointer t) (int w) r h = absurd cc
shift_takes op (pointer t) (pointer w) r h = absurd cc
shift_takes op (pointer t) (array w nw) r h = absurd cc
shift_takes op (pointer t) (tag w) r h = absurd cc
shift_takes op (array t nt) void r h = absurd cc
shift_takes op (array t nt) (int w) r h = absurd cc
shift_takes op (array t nt) (pointer w) r h = absurd cc
shift_takes op (array t nt) (array w nw) r h = absurd cc
shift_takes op (array t nt) (tag w) r h = absurd cc
shift_takes op (tag t) void r h = absurd cc
shift_takes op (tag t) (int w) r h = absurd cc
shift_takes op (tag t) (pointer w) r h = absurd cc
shift_takes op (tag t) (array w nw) r h = absurd cc
shift_takes op (tag t) (tag w) r h = absurd cc

sum_takes : (env : Known) (t w r : TypeTree) → sum_type env t w ≡ Some r → Takes b.Add t w r
sum_takes env void void r h = absurd cc
sum_takes env void (int w) r h = absurd cc
sum_takes env void (pointer w) r h = absurd cc
sum_takes env void (array w nw) r h = absurd cc
sum_takes env void (tag w) r h = absurd cc
sum_takes env (int t) void r h = absurd cc
sum_takes env (int t) (int w) r h = (refl, scalar_some (int (common t w)) r refl h)
sum_takes env (int t) (pointer w) r h = (refl, scalar_if (is_some (unit env w)) (pointer w) r refl h)
sum_takes env (int t) (array w nw) r h = absurd cc
sum_takes env (int t) (tag w) r h = absurd cc
sum_takes env (pointer t) void r h = absurd cc
sum_takes env (pointer t) (int w) r h = (refl, scalar_if (is_some (unit env t)) (pointer t) r refl h)
sum_takes env (pointer t) (pointer w) r h = absurd cc
sum_takes env (pointer t) (array w nw) r h = absurd cc
sum_takes env (pointer t) (tag w) r h = absurd cc
sum_takes env (array t nt) void r h = absurd cc
sum_takes env (array t nt) (int w) r h = absurd cc
sum_takes env (array t nt) (pointer w) r h = absurd cc
sum_takes env (array t nt) (array w nw) r h = absurd cc
sum_takes env (array t nt) (tag w) r h = absurd cc
sum_takes env (tag t) void r h = absurd cc
sum_takes env (tag t) (int w) r h = absurd cc
sum_takes env (tag t) (pointer w) r h = absurd cc
sum_takes env (tag t) (array w nw) r h = absurd cc
sum_takes env (tag t) (tag w) r h = absurd cc

difference_takes : (env : Known) (t w r : TypeTree) → difference_type env t w ≡ Some r → Takes b.Sub t w r
difference_takes env void void r h = absurd cc
difference_takes env void (int w) r h = absurd cc
difference_takes env void (pointer w) r h = absurd cc
difference_takes env void (array w nw) r h = absurd cc
difference_takes env void (tag w) r h = absurd cc
difference_takes env (int t) void r h = absurd cc
difference_takes env (int t) (int w) r h = (refl, scalar_some (int (common t w)) r refl h)
difference_takes env (int t) (pointer w) r h = absurd cc
difference_takes env (int t) (array w nw) r h = absurd cc
difference_takes env (int t) (tag w) r h = absurd cc
difference_takes env (pointer t) void r h = absurd cc
difference_takes env (pointer t) (int w) r h = (refl, scalar_if (is_some (unit env t)) (pointer t) r refl h)
difference_takes env (pointer t) (pointer w) r h = (refl, scalar_if (same_size (unit env t) (unit env w)) (int signed_long) r refl h)
difference_takes env (pointer t) (array w nw) r h = absurd cc
difference_takes env (pointer t) (tag w) r h = absurd cc
difference_takes env (array t nt) void r h = absurd cc
difference_takes env (array t nt) (int w) r h = absurd cc
difference_takes env (array t nt) (pointer w) r h = absurd cc
difference_takes env (array t nt) (array w nw) r h = absurd cc
difference_takes env (array t nt) (tag w) r h = absurd cc
difference_takes env (tag t) void r h = absurd cc
difference_takes env (tag t) (int w) r h = absurd cc
difference_takes env (tag t) (pointer w) r h = absurd cc
difference_takes env (tag t) (array w nw) r h = absurd cc
difference_takes env (tag t) (tag w) r h = absurd cc

compared_scalar : (z o : Bool) (t w r : TypeTree) → compared_type z o t w ≡ Some r → is_scalar r ≡ true
compared_scalar z o void void r h = absurd cc
compared_scalar z o void (int w) r h = absurd cc
compared_scalar z o void (pointer w) r h = absurd cc
compared_scalar z o void (array w nw) r h = absurd cc
compared_scalar z o void (tag w) r h = absurd cc
compared_scalar z o (int t) void r h = absurd cc
compared_scalar z o (int t) (int w) r h = scalar_some (int signed_int) r refl h
compared_scalar z o (int t) (pointer w) r h = scalar_if z (int signed_int) r refl h
compared_scalar z o (int t) (array w nw) r h = absurd cc
compared_scalar z o (int t) (tag w) r h = absurd cc
compared_scalar z o (pointer t) void r h = absurd cc
compared_scalar z o (pointer t) (int w) r h = scalar_if o (int signed_int) r refl h
compared_scalar z o (pointer t) (pointer w) r h = scalar_some (int signed_int) r refl h
compared_scalar z o (pointer t) (array w nw) r h = absurd cc
compared_scalar z o (pointer t) (tag w) r h = absurd cc
compared_scalar z o (array t nt) void r h = absurd cc
compared_scalar z o (array t nt) (int w) r h = absurd cc
compared_scalar z o (array t nt) (pointer w) r h = absurd cc
compared_scalar z o (array t nt) (array w nw) r h = absurd cc
compared_scalar z o (array t nt) (tag w) r h = absurd cc
compared_scalar z o (tag t) void r h = absurd cc
compared_scalar z o (tag t) (int w) r h = absurd cc
compared_scalar z o (tag t) (pointer w) r h = absurd cc
compared_scalar z o (tag t) (array w nw) r h = absurd cc
compared_scalar z o (tag t) (tag w) r h = absurd cc

-- an operator that does not test takes its operands, and what an operator gives is scalar
pub binary_takes : (env : Known) (op : Binary) (z o : Bool) (t w r : TypeTree) → binary_type env op z o t w ≡ Some r → (fine.sort_takes (sort_of op) op t w ≡ true) × (is_scalar r ≡ true)
binary_takes env b.Mul z o t w r h = common_takes b.Mul t w r h
binary_takes env b.Div z o t w r h = common_takes b.Div t w r h
binary_takes env b.Rem z o t w r h = common_takes b.Rem t w r h
binary_takes env b.BitAnd z o t w r h = common_takes b.BitAnd t w r h
binary_takes env b.BitXor z o t w r h = common_takes b.BitXor t w r h
binary_takes env b.BitOr z o t w r h = common_takes b.BitOr t w r h
binary_takes env b.Add z o t w r h = sum_takes env t w r h
binary_takes env b.Sub z o t w r h = difference_takes env t w r h
binary_takes env b.Shl z o t w r h = shift_takes b.Shl t w r h
binary_takes env b.Shr z o t w r h = shift_takes b.Shr t w r h
binary_takes env b.Lt z o t w r h = (refl, compared_scalar z o t w r h)
binary_takes env b.Gt z o t w r h = (refl, compared_scalar z o t w r h)
binary_takes env b.Le z o t w r h = (refl, compared_scalar z o t w r h)
binary_takes env b.Ge z o t w r h = (refl, compared_scalar z o t w r h)
binary_takes env b.Eq z o t w r h = (refl, compared_scalar z o t w r h)
binary_takes env b.Ne z o t w r h = (refl, compared_scalar z o t w r h)
binary_takes env b.And z o t w r h = (refl, scalar_if (is_scalar t && is_scalar w) (int signed_int) r refl h)
binary_takes env b.Or z o t w r h = (refl, scalar_if (is_scalar t && is_scalar w) (int signed_int) r refl h)

-- ---- conditionals

pointers_scalar : (t w r : TypeTree) → arm_pointers t w ≡ Some r → is_scalar r ≡ true
pointers_scalar void void r h = scalar_some (pointer void) r refl h
pointers_scalar void (int w) r h = scalar_some (pointer void) r refl h
pointers_scalar void (pointer w) r h = scalar_some (pointer void) r refl h
pointers_scalar void (array w nw) r h = scalar_some (pointer void) r refl h
pointers_scalar void (tag w) r h = scalar_some (pointer void) r refl h
pointers_scalar (int t) void r h = scalar_some (pointer void) r refl h
pointers_scalar (int t) (int w) r h = scalar_if (same_type (int t) (int w)) (pointer (int t)) r refl h
pointers_scalar (int t) (pointer w) r h = scalar_if (same_type (int t) (pointer w)) (pointer (int t)) r refl h
pointers_scalar (int t) (array w nw) r h = scalar_if (same_type (int t) (array w nw)) (pointer (int t)) r refl h
pointers_scalar (int t) (tag w) r h = scalar_if (same_type (int t) (tag w)) (pointer (int t)) r refl h
pointers_scalar (pointer t) void r h = scalar_some (pointer void) r refl h
pointers_scalar (pointer t) (int w) r h = scalar_if (same_type (pointer t) (int w)) (pointer (pointer t)) r refl h
pointers_scalar (pointer t) (pointer w) r h = scalar_if (same_type (pointer t) (pointer w)) (pointer (pointer t)) r refl h
pointers_scalar (pointer t) (array w nw) r h = scalar_if (same_type (pointer t) (array w nw)) (pointer (pointer t)) r refl h
pointers_scalar (pointer t) (tag w) r h = scalar_if (same_type (pointer t) (tag w)) (pointer (pointer t)) r refl h
pointers_scalar (array t nt) void r h = scalar_some (pointer void) r refl h
pointers_scalar (array t nt) (int w) r h = scalar_if (same_type (array t nt) (int w)) (pointer (array t nt)) r refl h
pointers_scalar (array t nt) (pointer w) r h = scalar_if (same_type (array t nt) (pointer w)) (pointer (array t nt)) r refl h
pointers_scalar (array t nt) (array w nw) r h = scalar_if (same_type (array t nt) (array w nw)) (pointer (array t nt)) r refl h
pointers_scalar (array t nt) (tag w) r h = scalar_if (same_type (array t nt) (tag w)) (pointer (array t nt)) r refl h
pointers_scalar (tag t) void r h = scalar_some (pointer void) r refl h
pointers_scalar (tag t) (int w) r h = scalar_if (same_type (tag t) (int w)) (pointer (tag t)) r refl h
pointers_scalar (tag t) (pointer w) r h = scalar_if (same_type (tag t) (pointer w)) (pointer (tag t)) r refl h
pointers_scalar (tag t) (array w nw) r h = scalar_if (same_type (tag t) (array w nw)) (pointer (tag t)) r refl h
pointers_scalar (tag t) (tag w) r h = scalar_if (same_type (tag t) (tag w)) (pointer (tag t)) r refl h

two_pointers : (z o : Bool) (t w r : TypeTree) → arms_type z o (pointer t) (pointer w) ≡ Some r → is_scalar r ≡ true
two_pointers true o t w r h = scalar_some (pointer w) r refl h
two_pointers false true t w r h = scalar_some (pointer t) r refl h
two_pointers false false t w r h = pointers_scalar t w r h

pub arms_scalar : (z o : Bool) (t w r : TypeTree) → arms_type z o t w ≡ Some r → is_scalar r ≡ true
arms_scalar true true void void r h = absurd cc
arms_scalar true false void void r h = absurd cc
arms_scalar false true void void r h = absurd cc
arms_scalar false false void void r h = absurd cc
arms_scalar true true void (int w) r h = absurd cc
arms_scalar true false void (int w) r h = absurd cc
arms_scalar false true void (int w) r h = absurd cc
arms_scalar false false void (int w) r h = absurd cc
arms_scalar true true void (pointer w) r h = absurd cc
arms_scalar true false void (pointer w) r h = absurd cc
arms_scalar false true void (pointer w) r h = absurd cc
arms_scalar false false void (pointer w) r h = absurd cc
arms_scalar true true void (array w nw) r h = absurd cc
arms_scalar true false void (array w nw) r h = absurd cc
arms_scalar false true void (array w nw) r h = absurd cc
arms_scalar false false void (array w nw) r h = absurd cc
arms_scalar true true void (tag w) r h = absurd cc
arms_scalar true false void (tag w) r h = absurd cc
arms_scalar false true void (tag w) r h = absurd cc
arms_scalar false false void (tag w) r h = absurd cc
arms_scalar true true (int t) void r h = absurd cc
arms_scalar true false (int t) void r h = absurd cc
arms_scalar false true (int t) void r h = absurd cc
arms_scalar false false (int t) void r h = absurd cc
arms_scalar z o (int t) (int w) r h = scalar_some (int (common t w)) r refl h
arms_scalar true true (int t) (pointer w) r h = scalar_if true (pointer w) r refl h
arms_scalar true false (int t) (pointer w) r h = scalar_if true (pointer w) r refl h
arms_scalar false true (int t) (pointer w) r h = scalar_if false (pointer w) r refl h
arms_scalar false false (int t) (pointer w) r h = scalar_if false (pointer w) r refl h
arms_scalar true true (int t) (array w nw) r h = absurd cc
arms_scalar true false (int t) (array w nw) r h = absurd cc
arms_scalar false true (int t) (array w nw) r h = absurd cc
arms_scalar false false (int t) (array w nw) r h = absurd cc
arms_scalar true true (int t) (tag w) r h = absurd cc
arms_scalar true false (int t) (tag w) r h = absurd cc
arms_scalar false true (int t) (tag w) r h = absurd cc
arms_scalar false false (int t) (tag w) r h = absurd cc
arms_scalar true true (pointer t) void r h = absurd cc
arms_scalar true false (pointer t) void r h = absurd cc
arms_scalar false true (pointer t) void r h = absurd cc
arms_scalar false false (pointer t) void r h = absurd cc
arms_scalar true true (pointer t) (int w) r h = scalar_if true (pointer t) r refl h
arms_scalar true false (pointer t) (int w) r h = scalar_if false (pointer t) r refl h
arms_scalar false true (pointer t) (int w) r h = scalar_if true (pointer t) r refl h
arms_scalar false false (pointer t) (int w) r h = scalar_if false (pointer t) r refl h
arms_scalar z o (pointer t) (pointer w) r h = two_pointers z o t w r h
arms_scalar true true (pointer t) (array w nw) r h = absurd cc
arms_scalar true false (pointer t) (array w nw) r h = absurd cc
arms_scalar false true (pointer t) (array w nw) r h = absurd cc
arms_scalar false false (pointer t) (array w nw) r h = absurd cc
arms_scalar true true (pointer t) (tag w) r h = absurd cc
arms_scalar true false (pointer t) (tag w) r h = absurd cc
arms_scalar false true (pointer t) (tag w) r h = absurd cc
arms_scalar false false (pointer t) (tag w) r h = absurd cc
arms_scalar true true (array t nt) void r h = absurd cc
arms_scalar true false (array t nt) void r h = absurd cc
arms_scalar false true (array t nt) void r h = absurd cc
arms_scalar false false (array t nt) void r h = absurd cc
arms_scalar true true (array t nt) (int w) r h = absurd cc
arms_scalar true false (array t nt) (int w) r h = absurd cc
arms_scalar false true (array t nt) (int w) r h = absurd cc
arms_scalar false false (array t nt) (int w) r h = absurd cc
arms_scalar true true (array t nt) (pointer w) r h = absurd cc
arms_scalar true false (array t nt) (pointer w) r h = absurd cc
arms_scalar false true (array t nt) (pointer w) r h = absurd cc
arms_scalar false false (array t nt) (pointer w) r h = absurd cc
arms_scalar true true (array t nt) (array w nw) r h = absurd cc
arms_scalar true false (array t nt) (array w nw) r h = absurd cc
arms_scalar false true (array t nt) (array w nw) r h = absurd cc
arms_scalar false false (array t nt) (array w nw) r h = absurd cc
arms_scalar true true (array t nt) (tag w) r h = absurd cc
arms_scalar true false (array t nt) (tag w) r h = absurd cc
arms_scalar false true (array t nt) (tag w) r h = absurd cc
arms_scalar false false (array t nt) (tag w) r h = absurd cc
arms_scalar true true (tag t) void r h = absurd cc
arms_scalar true false (tag t) void r h = absurd cc
arms_scalar false true (tag t) void r h = absurd cc
arms_scalar false false (tag t) void r h = absurd cc
arms_scalar true true (tag t) (int w) r h = absurd cc
arms_scalar true false (tag t) (int w) r h = absurd cc
arms_scalar false true (tag t) (int w) r h = absurd cc
arms_scalar false false (tag t) (int w) r h = absurd cc
arms_scalar true true (tag t) (pointer w) r h = absurd cc
arms_scalar true false (tag t) (pointer w) r h = absurd cc
arms_scalar false true (tag t) (pointer w) r h = absurd cc
arms_scalar false false (tag t) (pointer w) r h = absurd cc
arms_scalar true true (tag t) (array w nw) r h = absurd cc
arms_scalar true false (tag t) (array w nw) r h = absurd cc
arms_scalar false true (tag t) (array w nw) r h = absurd cc
arms_scalar false false (tag t) (array w nw) r h = absurd cc
arms_scalar true true (tag t) (tag w) r h = absurd cc
arms_scalar true false (tag t) (tag w) r h = absurd cc
arms_scalar false true (tag t) (tag w) r h = absurd cc
arms_scalar false false (tag t) (tag w) r h = absurd cc

-- ---- elements

pub element_takes : (t w r : TypeTree) → element t w ≡ Some r → fine.takes b.Add t w ≡ true
element_takes void void r h = absurd cc
element_takes void (int w) r h = absurd cc
element_takes void (pointer w) r h = absurd cc
element_takes void (array w nw) r h = absurd cc
element_takes void (tag w) r h = absurd cc
element_takes (int t) void r h = absurd cc
element_takes (int t) (int w) r h = absurd cc
element_takes (int t) (pointer w) r h = refl
element_takes (int t) (array w nw) r h = absurd cc
element_takes (int t) (tag w) r h = absurd cc
element_takes (pointer t) void r h = absurd cc
element_takes (pointer t) (int w) r h = refl
element_takes (pointer t) (pointer w) r h = absurd cc
element_takes (pointer t) (array w nw) r h = absurd cc
element_takes (pointer t) (tag w) r h = absurd cc
element_takes (array t nt) void r h = absurd cc
element_takes (array t nt) (int w) r h = absurd cc
element_takes (array t nt) (pointer w) r h = absurd cc
element_takes (array t nt) (array w nw) r h = absurd cc
element_takes (array t nt) (tag w) r h = absurd cc
element_takes (tag t) void r h = absurd cc
element_takes (tag t) (int w) r h = absurd cc
element_takes (tag t) (pointer w) r h = absurd cc
element_takes (tag t) (array w nw) r h = absurd cc
element_takes (tag t) (tag w) r h = absurd cc

-- ---- compound assignments

compound_computes : (op : Binary) → is_compound op ≡ true → sort_of op ≡ computing
compound_computes b.Mul h = refl
compound_computes b.Div h = refl
compound_computes b.Rem h = refl
compound_computes b.Add h = refl
compound_computes b.Sub h = refl
compound_computes b.Shl h = refl
compound_computes b.Shr h = refl
compound_computes b.BitAnd h = refl
compound_computes b.BitXor h = refl
compound_computes b.BitOr h = refl
compound_computes b.Lt h = absurd cc
compound_computes b.Gt h = absurd cc
compound_computes b.Le h = absurd cc
compound_computes b.Ge h = absurd cc
compound_computes b.Eq h = absurd cc
compound_computes b.Ne h = absurd cc
compound_computes b.And h = absurd cc
compound_computes b.Or h = absurd cc

move_computes : (op : Binary) → is_move op ≡ true → (sort_of op ≡ computing) × (fine.moves op ≡ true)
move_computes b.Add h = (refl, refl)
move_computes b.Sub h = (refl, refl)
move_computes b.Mul h = absurd cc
move_computes b.Div h = absurd cc
move_computes b.Rem h = absurd cc
move_computes b.Shl h = absurd cc
move_computes b.Shr h = absurd cc
move_computes b.BitAnd h = absurd cc
move_computes b.BitXor h = absurd cc
move_computes b.BitOr h = absurd cc
move_computes b.Lt h = absurd cc
move_computes b.Gt h = absurd cc
move_computes b.Le h = absurd cc
move_computes b.Ge h = absurd cc
move_computes b.Eq h = absurd cc
move_computes b.Ne h = absurd cc
move_computes b.And h = absurd cc
move_computes b.Or h = absurd cc

-- a scalar object that may be changed so is changed by an operator that does not test
pub update_changes : (op : Binary) (t w : TypeTree) → is_scalar t ≡ true → is_updatable op (value_type t) w ≡ true → (sort_of op ≡ computing) × (fine.changes op t w ≡ true)
update_changes op void void e h = absurd cc
update_changes op void (int w) e h = absurd cc
update_changes op void (pointer w) e h = absurd cc
update_changes op void (array w nw) e h = absurd cc
update_changes op void (tag w) e h = absurd cc
update_changes op (int t) void e h = absurd cc
update_changes op (int t) (int w) e h = (compound_computes op h, refl)
update_changes op (int t) (pointer w) e h = absurd cc
update_changes op (int t) (array w nw) e h = absurd cc
update_changes op (int t) (tag w) e h = absurd cc
update_changes op (pointer t) void e h = absurd cc
update_changes op (pointer t) (int w) e h = move_computes op h
update_changes op (pointer t) (pointer w) e h = absurd cc
update_changes op (pointer t) (array w nw) e h = absurd cc
update_changes op (pointer t) (tag w) e h = absurd cc
update_changes op (array t nt) void e h = absurd cc
update_changes op (array t nt) (int w) e h = absurd cc
update_changes op (array t nt) (pointer w) e h = absurd cc
update_changes op (array t nt) (array w nw) e h = absurd cc
update_changes op (array t nt) (tag w) e h = absurd cc
update_changes op (tag t) void e h = absurd cc
update_changes op (tag t) (int w) e h = absurd cc
update_changes op (tag t) (pointer w) e h = absurd cc
update_changes op (tag t) (array w nw) e h = absurd cc
update_changes op (tag t) (tag w) e h = absurd cc
