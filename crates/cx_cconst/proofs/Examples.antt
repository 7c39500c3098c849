-- The definitions of constant expressions on examples.
use Rattle.std.proofs.Common.{◌≡◌, ℕ, refl, ℤ, pos, negsuc, List, [], ◌∷◌, map, true, false, Option, Some, None, lit≤}
use Rattle.cx_base.specs.declared.span.Span.{Span}
use Rattle.cx_base.specs.Number.{half_of}
use Rattle.cx_ctree.specs.declared.expr.Binary.{Binary}
use Rattle.cx_ctree.specs.declared.expr.Binary.TheVariants as b
use Rattle.cx_ctree.specs.declared.expr.Unary.TheVariants as u
use Rattle.cx_ctree.specs.Conversions.{signed_int, unsigned_int, signed_long, unsigned_long}
use Rattle.cx_ctree.specs.Types.{TypeTree, void, int, pointer}
use Rattle.cx_ctree.specs.Exprs.{ExprTree, node, ExprKindTree, num, name, unary, binary, cond, cast, size_of}
use Rattle.cx_cname.specs.Known.{Known}
use Rattle.cx_cconst.specs.Constants.{type_in, constant_in, is_constant}

-- an enumeration constant, with the number 7, of value 5, and one with the number 8 of value 0
abbrev known : Known
known = record { tags = []; typedefs = []; consts = (7, pos 5) ∷ (8, pos 0) ∷ []; enums = [] }

abbrev nowhere : Span
nowhere = record { first = 0; past = 0; ordered = lit≤ tt }

abbrev e : ExprKindTree → ExprTree
e k = node nowhere void k

abbrev i : ℕ → ExprTree
i n = e (num (pos n) signed_int)

abbrev n : ℕ → ExprTree
n v = e (num (pos v) unsigned_int)

abbrev minus : ExprTree → ExprTree
minus x = e (unary u.Neg x)

abbrev op : Binary → ExprTree → ExprTree → ExprTree
op f x y = e (binary f x y)

abbrev to : TypeTree → ExprTree → ExprTree
to t x = e (cast t x)

abbrev char : TypeTree
char = int (record { size = 1; signed = true; known = refl })

abbrev values : List ExprTree → List (Option ℤ)
values = map (constant_in known)

abbrev types : List ExprTree → List (Option TypeTree)
types = map (type_in known)

-- quotients round toward zero, and what a type does not hold has no quotient
quotients :
    values (op b.Div (minus (i 7)) (i 2) ∷ op b.Rem (minus (i 7)) (i 2) ∷ op b.Div (i 1) (i 0) ∷ op b.Rem (i 1) (i 0) ∷ op b.Div (op b.Sub (minus (i 2147483647)) (i 1)) (minus (i 1)) ∷ [])
    ≡ Some (negsuc 2) ∷ Some (negsuc 0) ∷ None ∷ None ∷ None ∷ []
unfolding half_of
quotients = refl

-- sums and products wrap, in the common type
sums :
    values (op b.Add (i 2147483647) (i 1) ∷ op b.Add (n 4294967295) (i 1) ∷ op b.Mul (to (int unsigned_long) (minus (i 1))) (to (int unsigned_long) (minus (i 1))) ∷ op b.Lt (minus (i 1)) (n 1) ∷ op b.Lt (minus (i 1)) (i 1) ∷ [])
    ≡ Some (negsuc 2147483647) ∷ Some (pos 0) ∷ Some (pos 1) ∷ Some (pos 0) ∷ Some (pos 1) ∷ []
unfolding half_of
sums = refl

-- a shift has the type of its first operand, and a count below its width
shifts :
    values (op b.Shl (i 1) (i 31) ∷ op b.Shl (i 1) (i 32) ∷ op b.Shl (i 1) (minus (i 1)) ∷ op b.Shr (minus (i 7)) (i 1) ∷ op b.Shl (to char (i 1)) (i 8) ∷ [])
    ≡ Some (negsuc 2147483647) ∷ None ∷ None ∷ Some (negsuc 3) ∷ Some (pos 256) ∷ []
unfolding half_of
shifts = refl

bits :
    values (e (unary u.Compl (n 0)) ∷ e (unary u.Compl (i 0)) ∷ op b.BitAnd (minus (i 1)) (i 255) ∷ op b.BitXor (i 12) (i 10) ∷ op b.BitOr (minus (i 8)) (i 3) ∷ [])
    ≡ Some (pos 4294967295) ∷ Some (negsuc 0) ∷ Some (pos 255) ∷ Some (pos 6) ∷ Some (negsuc 4) ∷ []
unfolding half_of
bits = refl

-- only what is needed is evaluated
needed :
    values (op b.And (i 0) (op b.Div (i 1) (i 0)) ∷ op b.Or (i 2) (op b.Div (i 1) (i 0)) ∷ op b.And (i 2) (op b.Div (i 1) (i 0)) ∷ e (cond (i 1) (i 3) (op b.Div (i 1) (i 0))) ∷ e (cond (i 1) (minus (i 1)) (n 1)) ∷ [])
    ≡ Some (pos 0) ∷ Some (pos 1) ∷ None ∷ Some (pos 3) ∷ Some (pos 4294967295) ∷ []
unfolding half_of
needed = refl

names : values (e (name 7) ∷ e (name 9) ∷ e (size_of (int signed_long)) ∷ e (size_of void) ∷ to char (i 200) ∷ []) ≡ Some (pos 5) ∷ None ∷ Some (pos 8) ∷ None ∷ Some (negsuc 55) ∷ []
unfolding half_of
names = refl

-- pointers: moved by units, compared with the constant 0 alone, and subtracted
pointers :
    values (to (int signed_long) (op b.Add (to (pointer (int signed_int)) (i 8)) (i 2)) ∷ op b.Sub (to (pointer (int signed_int)) (i 16)) (to (pointer (int unsigned_int)) (i 8)) ∷ op b.Eq (to (pointer void) (i 0)) (e (name 8)) ∷ op b.Eq (to (pointer void) (i 0)) (i 1) ∷ op b.Sub (to (pointer char) (i 0)) (to (pointer (int signed_int)) (i 0)) ∷ to (pointer void) (i 0) ∷ [])
    ≡ Some (pos 16) ∷ Some (pos 2) ∷ Some (pos 1) ∷ None ∷ None ∷ None ∷ []
unfolding half_of
pointers = refl

result_types :
    types (op b.Add (to char (i 1)) (to char (i 1)) ∷ op b.Lt (n 1) (n 2) ∷ e (size_of char) ∷ e (cond (i 1) (to (pointer void) (i 0)) (to (pointer char) (i 1))) ∷ e (cond (i 1) (to (pointer void) (i 1)) (to (pointer char) (i 1))) ∷ e (cond (i 1) (to (pointer char) (i 1)) (to (pointer (int signed_int)) (i 1))) ∷ [])
    ≡ Some (int signed_int) ∷ Some (int signed_int) ∷ Some (int unsigned_long) ∷ Some (pointer char) ∷ Some (pointer void) ∷ None ∷ []
result_types = refl

initial : map (is_constant known) (to (pointer char) (i 1) ∷ e (name 9) ∷ op b.Div (i 1) (i 0) ∷ []) ≡ true ∷ false ∷ false ∷ []
unfolding half_of
initial = refl
