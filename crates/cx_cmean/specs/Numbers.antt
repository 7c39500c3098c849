-- Conversions, and operators on values of scalar types. An address is a number of 8 bytes.
use Rattle.std.specs.Prelude.{ℕ, ℤ, pos, ◌+ℤ◌, ◌-ℤ◌, ◌*ℤ◌, int_le, int_lt, Bool, not, ◌&&◌, ◌==◌, if◌then◌else◌, Option}
use Rattle.std.specs.Ordering.{int_eq}
use Rattle.cx_base.specs.declared.fault.FaultKind.TheVariants as fault
use Rattle.cx_base.specs.declared.number.CInt.{CInt}
use Rattle.cx_base.specs.declared.span.Span.{Span}
use Rattle.cx_cconst.specs.Constants.{number_type, converted, truth, is_shift, operated}
use Rattle.cx_ctree.specs.Conversions.{signed_long, unsigned_long, promoted, common}
use Rattle.cx_ctree.specs.Exprs.{ExprTree, type_of}
use Rattle.cx_ctree.specs.Types.{TypeTree, int, pointer, array}
use Rattle.cx_ctree.specs.declared.expr.Binary.{Binary}
use Rattle.cx_ctree.specs.declared.expr.Binary.TheVariants as b
use Rattle.cx_ctree.specs.declared.expr.Unary.{Unary}
use Rattle.cx_ctree.specs.declared.expr.Unary.TheVariants as u
use Rattle.cx_cmean.specs.Program.{unit_in}
use Rattle.cx_sname.specs.File.{Declared}
use Rattle.cx_world.specs.World.{World, Did, gives, halts, go_on, number_or, blocked}

-- ---- types of values

-- the type of the value of an expression: an array stands for a pointer to its first element (C11 6.3.2.1)
abbrev pub value_type : TypeTree → TypeTree
value_type (array t n) = pointer t
value_type t = t

-- the integer type of the numbers that are the expression's values
abbrev pub number_of : ExprTree → CInt
number_of e = number_type (value_type (type_of e))

-- ---- conversions

abbrev pub same_sign : Bool → Bool → Bool
same_sign s t = if s then t else not t

abbrev pub is_same : CInt → CInt → Bool
is_same t u = t.size == u.size && same_sign t.signed u.signed

-- a number of the one type as one of the other (C11 6.3.1.3)
abbrev pub as_type : (from to : CInt) → ℤ → ℤ
as_type from to v = if is_same from to then v else converted to v

abbrev pub is_zero : ℤ → Bool
is_zero v = int_eq v (pos 0)

-- a test's 1 or 0
abbrev pub as_number : Did Bool → Did ℤ
as_number d = go_on d (λ z w. gives (truth z) w)

-- ---- operators with one operand

-- the operator on a number of the one type, whose promoted type is the other (C11 6.5.3.3)
abbrev pub on_one : Unary → (from to : CInt) → ℤ → ℤ
on_one u.Plus from to v = as_type from to v
on_one u.Neg from to v = converted to (pos 0 -ℤ as_type from to v)
on_one u.Compl from to v = converted to (pos 0 -ℤ pos 1 -ℤ as_type from to v)
on_one u.Not from to v = truth (is_zero v)

-- ---- operators with two operands

-- the type in which the operator is applied (C11 6.3.1.8; 6.5.7 for shifts)
abbrev pub applied_in : Binary → CInt → CInt → CInt
applied_in op t u = if is_shift op then promoted t else common t u

-- the type to which the right operand is converted
abbrev pub right_in : Binary → CInt → CInt → CInt
right_in op t u = if is_shift op then promoted u else common t u

abbrev pub shift_or_divisor : Binary → Span → Option ℤ → World → Did ℤ
shift_or_divisor op s r w = if is_shift op then number_or fault.Shift s r w else number_or fault.Divisor s r w

-- an operator on numbers of these types: a shift whose count is out of range is a fault, and so is a quotient that is no number of the type
abbrev pub on_integers : Span → Binary → CInt → CInt → ℤ → ℤ → World → Did ℤ
on_integers s op t u x y w = shift_or_divisor op s (operated op (applied_in op t u) (as_type t (applied_in op t u) x) (as_type u (right_in op t u) y)) w

-- a pointer moved by a number of such units, ahead and back (C11 6.5.6)
abbrev pub moved : ℤ → ℤ → ℕ → ℤ
moved x i n = converted unsigned_long (x +ℤ i *ℤ pos n)

abbrev pub moved_back : ℤ → ℤ → ℕ → ℤ
moved_back x i n = converted unsigned_long (x -ℤ i *ℤ pos n)

-- how many units lie between two pointers
abbrev pub distance : Span → ℤ → ℤ → ℕ → World → Did ℤ
distance s x y n w = number_or fault.Divisor s (operated b.Div signed_long (converted signed_long (x -ℤ y)) (pos n)) w

-- the type in which values of these types are compared; pointers compare as numbers
abbrev pub compared_in : TypeTree → TypeTree → CInt
compared_in (int t) (int u) = common t u
compared_in t u = unsigned_long

-- the two numbers that are compared
abbrev pub first_in : TypeTree → TypeTree → ℤ → ℤ
first_in t u x = as_type (number_type t) (compared_in t u) x

abbrev pub second_in : TypeTree → TypeTree → ℤ → ℤ
second_in t u y = as_type (number_type u) (compared_in t u) y

-- an operator on two values of these types, but && and ||
abbrev pub operate : Declared → Span → Binary → TypeTree → TypeTree → ℤ → ℤ → World → Did ℤ
operate d s b.Lt t u x y w = gives (truth (int_lt (first_in t u x) (second_in t u y))) w
operate d s b.Gt t u x y w = gives (truth (int_lt (second_in t u y) (first_in t u x))) w
operate d s b.Le t u x y w = gives (truth (int_le (first_in t u x) (second_in t u y))) w
operate d s b.Ge t u x y w = gives (truth (int_le (second_in t u y) (first_in t u x))) w
operate d s b.Eq t u x y w = gives (truth (int_eq (first_in t u x) (second_in t u y))) w
operate d s b.Ne t u x y w = gives (truth (not (int_eq (first_in t u x) (second_in t u y)))) w
operate d s op (int t) (int u) x y w = on_integers s op t u x y w
operate d s b.Add (pointer t) (int u) x y w = gives (moved x (as_type u unsigned_long y) (unit_in d t)) w
operate d s b.Add (int t) (pointer u) x y w = gives (moved y (as_type t unsigned_long x) (unit_in d u)) w
operate d s b.Sub (pointer t) (int u) x y w = gives (moved_back x (as_type u unsigned_long y) (unit_in d t)) w
operate d s b.Sub (pointer t) (pointer u) x y w = distance s x y (unit_in d t) w
operate d s op t u x y w = halts blocked w
