-- The types that operators take and give (C11 6.5), and what converts to what. Operands are values: an array stands for a pointer to its first element (C11 6.3.2.1).
use Rattle.std.specs.Prelude.{ℕ, pos, Bool, true, false, ◌&&◌, ◌==◌, Option, Some, None, is_some}
use Rattle.std.specs.Ordering.{int_eq}
use Rattle.std.specs.Option.{option_map_or}
use Rattle.cx_base.specs.declared.number.CInt.{CInt}
use Rattle.cx_ctree.specs.declared.expr.Binary.{Binary}
use Rattle.cx_ctree.specs.declared.expr.Binary.TheVariants as b
use Rattle.cx_ctree.specs.declared.expr.Unary.{Unary}
use Rattle.cx_ctree.specs.declared.expr.Unary.TheVariants as u
use Rattle.cx_ctree.specs.Conversions.{signed_int, signed_long, unsigned_long, promoted, common}
use Rattle.cx_ctree.specs.Types.{TypeTree, void, int, pointer, array}
use Rattle.cx_ctree.specs.Exprs.{ExprTree, node, num, name, cast}
use Rattle.cx_ctree.specs.Layouts as layout
use Rattle.cx_cname.specs.Known.{Known, value_of}
use Rattle.cx_cname.specs.Meanings.{same_type}

-- the type of the value of an expression of the type (C11 6.3.2.1)
abbrev pub value_type : TypeTree → TypeTree
value_type (array t n) = pointer t
value_type t = t

abbrev pub is_int : TypeTree → Bool
is_int (int t) = true
is_int _ = false

-- an integer type or a pointer type
abbrev pub is_scalar : TypeTree → Bool
is_scalar (int t) = true
is_scalar (pointer t) = true
is_scalar _ = false

-- the type of the numbers that the values of a scalar type are: an address is a number of 8 bytes
abbrev pub number_type : TypeTree → CInt
number_type (int t) = t
number_type _ = unsigned_long

-- the size of what a pointer to the type is moved by: 1 for void
abbrev pub unit : Known → TypeTree → Option ℕ
unit env void = Some 1
unit env t = layout.size_of env.tags t

abbrev pub if_true : {A : Type 0} → Bool → A → Option A
if_true true x = Some x
if_true false x = None

-- ---- operators with one operand

abbrev pub promoted_type : TypeTree → Option TypeTree
promoted_type (int t) = Some (int (promoted t))
promoted_type _ = None

-- the type of what the operator gives (C11 6.5.3.3), where it takes such an operand
abbrev pub unary_type : Unary → TypeTree → Option TypeTree
unary_type u.Not t = if_true (is_scalar t) (int signed_int)
unary_type _ t = promoted_type t

-- ---- operators with two operands

abbrev pub common_type : TypeTree → TypeTree → Option TypeTree
common_type (int t) (int w) = Some (int (common t w))
common_type _ _ = None

-- a shift has the type of its left operand (C11 6.5.7)
abbrev pub shifted_type : TypeTree → TypeTree → Option TypeTree
shifted_type (int t) (int w) = Some (int (promoted t))
shifted_type _ _ = None

abbrev pub sum_type : Known → TypeTree → TypeTree → Option TypeTree
sum_type env (int t) (int w) = Some (int (common t w))
sum_type env (pointer t) (int w) = if_true (is_some (unit env t)) (pointer t)
sum_type env (int w) (pointer t) = if_true (is_some (unit env t)) (pointer t)
sum_type env _ _ = None

abbrev pub same_size : Option ℕ → Option ℕ → Bool
same_size (Some n) (Some m) = n == m
same_size _ _ = false

abbrev pub difference_type : Known → TypeTree → TypeTree → Option TypeTree
difference_type env (int t) (int w) = Some (int (common t w))
difference_type env (pointer t) (int w) = if_true (is_some (unit env t)) (pointer t)
difference_type env (pointer t) (pointer w) = if_true (same_size (unit env t) (unit env w)) (int signed_long)
difference_type env _ _ = None

-- two integers, two pointers, or a pointer and the constant 0, which the marks tell
abbrev pub compared_type : (zero other : Bool) → TypeTree → TypeTree → Option TypeTree
compared_type z o (int t) (int w) = Some (int signed_int)
compared_type z o (pointer t) (pointer w) = Some (int signed_int)
compared_type z o (pointer t) (int w) = if_true o (int signed_int)
compared_type z o (int t) (pointer w) = if_true z (int signed_int)
compared_type z o _ _ = None

abbrev pub logical_type : TypeTree → TypeTree → Option TypeTree
logical_type t w = if_true (is_scalar t && is_scalar w) (int signed_int)

-- the type of what the operator gives, where it takes such operands; the marks tell the constant 0
abbrev pub binary_type : Known → Binary → (zero other : Bool) → TypeTree → TypeTree → Option TypeTree
binary_type env b.Add z o t w = sum_type env t w
binary_type env b.Sub z o t w = difference_type env t w
binary_type env b.Shl z o t w = shifted_type t w
binary_type env b.Shr z o t w = shifted_type t w
binary_type env b.Lt z o t w = compared_type z o t w
binary_type env b.Gt z o t w = compared_type z o t w
binary_type env b.Le z o t w = compared_type z o t w
binary_type env b.Ge z o t w = compared_type z o t w
binary_type env b.Eq z o t w = compared_type z o t w
binary_type env b.Ne z o t w = compared_type z o t w
binary_type env b.And z o t w = logical_type t w
binary_type env b.Or z o t w = logical_type t w
binary_type env _ z o t w = common_type t w

-- ---- conditionals (C11 6.5.15)

abbrev pub arm_pointers : TypeTree → TypeTree → Option TypeTree
arm_pointers void w = Some (pointer void)
arm_pointers t void = Some (pointer void)
arm_pointers t w = if_true (same_type t w) (pointer t)

-- the type of a conditional whose arms have these types; the marks tell the constant 0
abbrev pub arms_type : (zero other : Bool) → TypeTree → TypeTree → Option TypeTree
arms_type z o (int t) (int w) = Some (int (common t w))
arms_type true o (pointer t) (pointer w) = Some (pointer w)
arms_type false true (pointer t) (pointer w) = Some (pointer t)
arms_type false false (pointer t) (pointer w) = arm_pointers t w
arms_type z o (pointer t) (int w) = if_true o (pointer t)
arms_type z o (int t) (pointer w) = if_true z (pointer w)
arms_type z o _ _ = None

-- ---- the constant 0 (C11 6.3.2.3)

-- a number that is 0, or the name of a constant that is
abbrev pub is_zero_number : Known → ExprTree → Bool
is_zero_number env (node s t (num v n)) = int_eq v (pos 0)
is_zero_number env (node s t (name n)) = option_map_or (λ v. int_eq v (pos 0)) (value_of n env.consts) false
is_zero_number env _ = false

abbrev pub is_void_pointer : TypeTree → Bool
is_void_pointer (pointer void) = true
is_void_pointer _ = false

-- such a one, also cast to void *
abbrev pub is_zero : Known → ExprTree → Bool
is_zero env (node s t (cast w x)) = is_void_pointer w && is_zero_number env x
is_zero env x = is_zero_number env x

-- ---- conversions

-- the type of a cast to the type t (C11 6.5.4)
abbrev pub cast_type : (t w : TypeTree) → Option TypeTree
cast_type t w = if_true (is_scalar t && is_scalar w) t

-- a value of the type t may be assigned to an object of the type w (C11 6.5.16.1); pointers convert to one another, and the mark tells the constant 0
abbrev pub is_assignable : (zero : Bool) → (t w : TypeTree) → Bool
is_assignable z (int t) (int w) = true
is_assignable z (pointer t) (pointer w) = true
is_assignable z (int t) (pointer w) = z
is_assignable z _ _ = false

-- ---- compound assignments (C11 6.5.16.2)

-- the operators that a compound assignment has
abbrev pub is_compound : Binary → Bool
is_compound b.Lt = false
is_compound b.Gt = false
is_compound b.Le = false
is_compound b.Ge = false
is_compound b.Eq = false
is_compound b.Ne = false
is_compound b.And = false
is_compound b.Or = false
is_compound _ = true

abbrev pub is_move : Binary → Bool
is_move b.Add = true
is_move b.Sub = true
is_move _ = false

-- an object of the type t may be changed by an operand of the type w: two integers, or a pointer that is moved
abbrev pub is_updatable : Binary → (t w : TypeTree) → Bool
is_updatable op (int t) (int w) = is_compound op
is_updatable op (pointer t) (int w) = is_move op
is_updatable op _ _ = false

-- a pointer that is moved points to a type with a size
abbrev pub is_movable : Known → TypeTree → Bool
is_movable env (pointer t) = is_some (unit env t)
is_movable env _ = true
