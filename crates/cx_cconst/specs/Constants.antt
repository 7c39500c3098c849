-- Constant expressions (C11 6.6): the type and the value of one, among the names that are known. An address is a number of 8 bytes.
use Rattle.std.specs.Prelude.{ℕ, ◌*◌, ◌^◌, ℤ, pos, nat_abs, ◌+ℤ◌, ◌-ℤ◌, ◌*ℤ◌, int_le, int_lt, int_div, int_rem, Bool, true, false, not, ◌&&◌, ◌||◌, ◌==◌, Option, Some, None, option_map, is_some, if◌then◌else◌, bit_and, bit_or, bit_xor}
use Rattle.std.specs.Int.{int_rem_euclid, int_div_euclid}
use Rattle.std.specs.Ordering.{int_eq}
use Rattle.std.specs.Option.{option_and_then, option_map_or}
use Rattle.cx_base.specs.declared.number.CInt.{CInt}
use Rattle.cx_base.specs.Number.{wrapped}
use Rattle.cx_ctree.specs.declared.expr.Binary.{Binary}
use Rattle.cx_ctree.specs.declared.expr.Binary.TheVariants as b
use Rattle.cx_ctree.specs.declared.expr.Unary.{Unary}
use Rattle.cx_ctree.specs.declared.expr.Unary.TheVariants as u
use Rattle.cx_ctree.specs.Conversions.{signed_int, signed_long, unsigned_long, promoted, common}
use Rattle.cx_ctree.specs.Types.{TypeTree, void, int, pointer, array, tag}
use Rattle.cx_ctree.specs.Exprs.{ExprTree, node, ExprKindTree, num, name, unary, binary, cond, cast, size_of}
use Rattle.cx_ctree.specs.Layouts as layout
use Rattle.cx_cname.specs.Known.{Known, value_of}

-- ---- types

abbrev pub same_type : TypeTree → TypeTree → Bool
same_type void void = true
same_type (int t) (int w) = (t.size == w.size) && (if t.signed then w.signed else not w.signed)
same_type (pointer t) (pointer w) = same_type t w
same_type (array t n) (array w m) = (n == m) && same_type t w
same_type (tag k) (tag j) = k == j
same_type _ _ = false

abbrev pub is_scalar : TypeTree → Bool
is_scalar (int t) = true
is_scalar (pointer t) = true
is_scalar _ = false

-- the size of what a pointer is moved by: 1 for void
abbrev pub unit : Known → TypeTree → Option ℕ
unit env void = Some 1
unit env t = layout.size_of env.tags t

abbrev pub if_true : {A : Type 0} → Bool → A → Option A
if_true true x = Some x
if_true false x = None

abbrev pub promoted_type : TypeTree → Option TypeTree
promoted_type (int t) = Some (int (promoted t))
promoted_type _ = None

abbrev pub common_type : TypeTree → TypeTree → Option TypeTree
common_type (int t) (int w) = Some (int (common t w))
common_type _ _ = None

abbrev pub shifted_type : TypeTree → TypeTree → Option TypeTree
shifted_type (int t) (int w) = Some (int (promoted t))
shifted_type _ _ = None

abbrev pub sum_type : Known → TypeTree → TypeTree → Option TypeTree
sum_type env (int t) (int w) = Some (int (common t w))
sum_type env (pointer t) (int w) = if_true (is_some (unit env t)) (pointer t)
sum_type env (int w) (pointer t) = if_true (is_some (unit env t)) (pointer t)
sum_type env _ _ = None

abbrev pub same_size : Option ℕ → Option ℕ → Bool
same_size (Some n) (Some m) = n == m
same_size _ _ = false

abbrev pub difference_type : Known → TypeTree → TypeTree → Option TypeTree
difference_type env (int t) (int w) = Some (int (common t w))
difference_type env (pointer t) (int w) = if_true (is_some (unit env t)) (pointer t)
difference_type env (pointer t) (pointer w) = if_true (same_size (unit env t) (unit env w)) (int signed_long)
difference_type env _ _ = None

-- two integers, two pointers, or a pointer and the constant 0, which the marks tell
abbrev pub compared_type : (zero other : Bool) → TypeTree → TypeTree → Option TypeTree
compared_type z o (int t) (int w) = Some (int signed_int)
compared_type z o (pointer t) (pointer w) = Some (int signed_int)
compared_type z o (pointer t) (int w) = if_true o (int signed_int)
compared_type z o (int t) (pointer w) = if_true z (int signed_int)
compared_type z o _ _ = None

abbrev pub arm_pointers : TypeTree → TypeTree → Option TypeTree
arm_pointers void w = Some (pointer void)
arm_pointers t void = Some (pointer void)
arm_pointers t w = if_true (same_type t w) (pointer t)

-- the arms of a conditional (C11 6.5.15), where the marks tell the constant 0
abbrev pub arms_type : (zero other : Bool) → TypeTree → TypeTree → Option TypeTree
arms_type z o (int t) (int w) = Some (int (common t w))
arms_type true o (pointer t) (pointer w) = Some (pointer w)
arms_type false true (pointer t) (pointer w) = Some (pointer t)
arms_type false false (pointer t) (pointer w) = arm_pointers t w
arms_type z o (pointer t) (int w) = if_true o (pointer t)
arms_type z o (int t) (pointer w) = if_true z (pointer w)
arms_type z o _ _ = None

abbrev pub logical_type : TypeTree → TypeTree → Option TypeTree
logical_type t w = if_true (is_scalar t && is_scalar w) (int signed_int)

abbrev pub binary_type : Known → Binary → (zero other : Bool) → TypeTree → TypeTree → Option TypeTree
binary_type env b.Add z o t w = sum_type env t w
binary_type env b.Sub z o t w = difference_type env t w
binary_type env b.Shl z o t w = shifted_type t w
binary_type env b.Shr z o t w = shifted_type t w
binary_type env b.Lt z o t w = compared_type z o t w
binary_type env b.Gt z o t w = compared_type z o t w
binary_type env b.Le z o t w = compared_type z o t w
binary_type env b.Ge z o t w = compared_type z o t w
binary_type env b.Eq z o t w = compared_type z o t w
binary_type env b.Ne z o t w = compared_type z o t w
binary_type env b.And z o t w = logical_type t w
binary_type env b.Or z o t w = logical_type t w
binary_type env _ z o t w = common_type t w

abbrev pub unary_type : Unary → TypeTree → Option TypeTree
unary_type u.Not t = if_true (is_scalar t) (int signed_int)
unary_type _ t = promoted_type t

-- a number that is 0, or the name of a constant that is
abbrev pub is_zero_number : Known → ExprTree → Bool
is_zero_number env (node s t (num v n)) = int_eq v (pos 0)
is_zero_number env (node s t (name n)) = option_map_or (λ v. int_eq v (pos 0)) (value_of n env.consts) false
is_zero_number env _ = false

abbrev pub is_void_pointer : TypeTree → Bool
is_void_pointer (pointer void) = true
is_void_pointer _ = false

-- the constant 0: such a one, also cast to void * (C11 6.3.2.3)
abbrev pub is_zero : Known → ExprTree → Bool
is_zero env (node s t (cast w x)) = is_void_pointer w && is_zero_number env x
is_zero env x = is_zero_number env x

abbrev mutual
  -- the type of an expression without objects, where it keeps the rules on types
  pub type_in : Known → ExprTree → Option TypeTree
  type_in env (node s t k) = kind_type env k

  pub kind_type : Known → ExprKindTree → Option TypeTree
  kind_type env (num v t) = Some (int t)
  kind_type env (name n) = option_map (λ v. int signed_int) (value_of n env.consts)
  kind_type env (unary op x) = option_and_then (unary_type op) (type_in env x)
  kind_type env (binary op x y) = option_and_then (λ t. option_and_then (binary_type env op (is_zero env x) (is_zero env y) t) (type_in env y)) (type_in env x)
  kind_type env (cond c x y) = option_and_then (λ q. if is_scalar q then option_and_then (λ t. option_and_then (arms_type (is_zero env x) (is_zero env y) t) (type_in env y)) (type_in env x) else None) (type_in env c)
  kind_type env (cast t x) = option_and_then (λ w. if_true (is_scalar t && is_scalar w) t) (type_in env x)
  kind_type env (size_of t) = option_map (λ n. int unsigned_long) (layout.size_of env.tags t)
  kind_type env _ = None

-- ---- values

-- the number type of a scalar's values
abbrev pub number_type : TypeTree → CInt
number_type (int t) = t
number_type _ = unsigned_long

abbrev pub converted : CInt → ℤ → ℤ
converted t v = wrapped t.size t.signed v

abbrev pub truth : Bool → ℤ
truth true = pos 1
truth false = pos 0

-- the low bits of a number, as many as the type has
abbrev pub bits : CInt → ℤ → ℕ
bits t v = nat_abs (int_rem_euclid v (pos (2 ^ (8 * t.size))))

-- a quotient that the type holds
abbrev pub divided : CInt → ℤ → ℤ → ℤ → Option ℤ
divided t x y result = if int_eq y (pos 0) || not (int_eq (converted t (int_div x y)) (int_div x y)) then None else Some result

abbrev pub counted_shift : CInt → ℤ → ℤ → Option ℤ
counted_shift t count result = if int_le (pos 0) count && int_lt count (pos (8 * t.size)) then Some (converted t result) else None

-- an operator on two numbers of the type; the count of a shift has a type of its own
abbrev pub operated : Binary → CInt → ℤ → ℤ → Option ℤ
operated b.Mul t x y = Some (converted t (x *ℤ y))
operated b.Div t x y = divided t x y (int_div x y)
operated b.Rem t x y = divided t x y (int_rem x y)
operated b.Add t x y = Some (converted t (x +ℤ y))
operated b.Sub t x y = Some (converted t (x -ℤ y))
operated b.Shl t x y = counted_shift t y (x *ℤ pos (2 ^ nat_abs y))
operated b.Shr t x y = counted_shift t y (int_div_euclid x (pos (2 ^ nat_abs y)))
operated b.Lt t x y = Some (truth (int_lt x y))
operated b.Gt t x y = Some (truth (int_lt y x))
operated b.Le t x y = Some (truth (int_le x y))
operated b.Ge t x y = Some (truth (int_le y x))
operated b.Eq t x y = Some (truth (int_eq x y))
operated b.Ne t x y = Some (truth (not (int_eq x y)))
operated b.BitAnd t x y = Some (converted t (pos (bit_and (bits t x) (bits t y))))
operated b.BitXor t x y = Some (converted t (pos (bit_xor (bits t x) (bits t y))))
operated b.BitOr t x y = Some (converted t (pos (bit_or (bits t x) (bits t y))))
operated b.And t x y = Some (truth (not (int_eq x (pos 0)) && not (int_eq y (pos 0))))
operated b.Or t x y = Some (truth (not (int_eq x (pos 0)) || not (int_eq y (pos 0))))

abbrev pub unary_value : Unary → CInt → ℤ → ℤ
unary_value u.Plus t v = converted t v
unary_value u.Neg t v = converted t (pos 0 -ℤ converted t v)
unary_value u.Compl t v = converted t (pos 0 -ℤ pos 1 -ℤ converted t v)
unary_value u.Not t v = truth (int_eq v (pos 0))

-- a pointer moved by so many units
abbrev pub moved : Option ℕ → ℤ → ℤ → Option ℤ
moved unit p i = option_map (λ n. converted unsigned_long (p +ℤ i *ℤ pos n)) unit

-- the number of units between two pointers
abbrev pub distance : Option ℕ → ℤ → ℤ → Option ℤ
distance unit p q = option_and_then (λ n. operated b.Div signed_long (converted signed_long (p -ℤ q)) (pos n)) unit

abbrev pub is_shift : Binary → Bool
is_shift b.Shl = true
is_shift b.Shr = true
is_shift _ = false

-- an operator on two values of integer types
abbrev pub integers_value : Binary → CInt → CInt → ℤ → ℤ → Option ℤ
integers_value op t w x y =
    if is_shift op then operated op (promoted t) (converted (promoted t) x) (converted (promoted w) y)
    else operated op (common t w) (converted (common t w) x) (converted (common t w) y)

-- an operator on two values of these types
abbrev pub binary_value : Known → Binary → TypeTree → TypeTree → ℤ → ℤ → Option ℤ
binary_value env op (int t) (int w) x y = integers_value op t w x y
binary_value env b.Add (pointer t) (int w) x y = moved (unit env t) x y
binary_value env b.Add (int w) (pointer t) x y = moved (unit env t) y x
binary_value env b.Sub (pointer t) (int w) x y = moved (unit env t) x (pos 0 -ℤ y)
binary_value env b.Sub (pointer t) (pointer w) x y = distance (unit env t) x y
binary_value env op t w x y = operated op unsigned_long (converted unsigned_long x) (converted unsigned_long y)

-- what the first operand of && and || alone decides
abbrev pub decided : Binary → ℤ → Option ℤ
decided b.And x = if int_eq x (pos 0) then Some (pos 0) else None
decided b.Or x = if int_eq x (pos 0) then None else Some (pos 1)
decided _ x = None

abbrev pub or_value : Option ℤ → Option ℤ → Option ℤ
or_value None other = other
or_value (Some v) other = Some v

abbrev mutual
  -- the value of an expression without objects that keeps the rules on types, where it has one
  pub value_in : Known → ExprTree → Option ℤ
  value_in env (node s t k) = kind_value env k

  pub kind_value : Known → ExprKindTree → Option ℤ
  kind_value env (num v t) = Some v
  kind_value env (name n) = value_of n env.consts
  kind_value env (unary op x) = option_and_then (λ t. option_map (unary_value op (promoted (number_type t))) (value_in env x)) (type_in env x)
  kind_value env (binary op x y) = option_and_then (λ v. or_value (decided op v) (option_and_then (λ t. option_and_then (λ w. option_and_then (binary_value env op t w v) (value_in env y)) (type_in env y)) (type_in env x))) (value_in env x)
  kind_value env (cond c x y) = option_and_then (λ q. option_and_then (λ t. option_map (converted (number_type t)) (if int_eq q (pos 0) then value_in env y else value_in env x)) (kind_type env (cond c x y))) (value_in env c)
  kind_value env (cast t x) = option_map (converted (number_type t)) (value_in env x)
  kind_value env (size_of t) = option_map (λ n. pos n) (layout.size_of env.tags t)
  kind_value env _ = None

abbrev pub is_int : TypeTree → Bool
is_int (int t) = true
is_int _ = false

-- the value of an integer constant expression (C11 6.6), where it is one
abbrev pub constant_in : Known → ExprTree → Option ℤ
constant_in env x = if option_map_or is_int (type_in env x) false then value_in env x else None

-- the expression may initialise an object of a file: it is a constant, of an integer type or a pointer type
abbrev pub is_constant : Known → ExprTree → Bool
is_constant env x = option_map_or is_scalar (type_in env x) false && is_some (value_in env x)
