-- What an effect does: assignments, calls and values that nothing takes (C11 6.5.16, 6.5.2.2).
use Rattle.std.specs.Prelude.{ℕ, ℤ, List, [], ◌∷◌, Option, Some, None, slice_set}
use Rattle.cx_base.specs.declared.span.Span.{Span}
use Rattle.cx_cconst.specs.Constants.{number_type}
use Rattle.cx_ctree.specs.Exprs.{ExprTree, node, local, cast, type_of, span_of, kind_of, ExprKindTree, CallTree, RhsTree, value, call, EffectTree, set, update, call_alone, value_alone}
use Rattle.cx_ctree.specs.Types.{TypeTree, void, int, pointer}
use Rattle.cx_ctree.specs.declared.expr.Binary.{Binary}
use Rattle.cx_cmean.specs.Expressions.{object_at, eval, place}
use Rattle.cx_cmean.specs.Numbers.{value_type, number_of, as_type, applied_in, on_integers, operate}
use Rattle.cx_cmean.specs.Program.{Program, function_of}
use Rattle.cx_world.specs.Access.{store}
use Rattle.cx_world.specs.Calls as world
use Rattle.cx_world.specs.World.{World, Locals, local_value, Did, gives, halts, go_on, blocked}

-- ---- calls

-- the values of arguments, each converted to the type of its parameter
abbrev pub arguments : Program → Locals → List ExprTree → List TypeTree → World → Did (List ℤ)
arguments p ls [] ts w = gives [] w
arguments p ls (e ∷ es) [] w = gives [] w
arguments p ls (e ∷ es) (t ∷ ts) w = go_on (eval p ls e w) (λ v w. go_on (arguments p ls es ts w) (λ vs w. gives (as_type (number_of e) (number_type t) v ∷ vs) w))

-- a call whose result becomes a pointer to the type, if one is given
abbrev pub called : Program → Locals → CallTree → Option TypeTree → World → Did (Option ℤ)
called p ls c pointee w = go_on (arguments p ls c.args (function_of p.unit c.name).params w) (λ vs w. world.call p.oracle c.span c.name pointee vs w)

-- the type that takes the result first: that of a cast, if there is one
abbrev pub taken_as : Option TypeTree → TypeTree → TypeTree
taken_as None t = t
taken_as (Some q) t = q

abbrev pub pointee_of : TypeTree → Option TypeTree
pointee_of (pointer t) = Some t
pointee_of _ = None

-- the result of a call, converted to the type that takes it and then to the type that is asked for
abbrev pub result_as : (result taken t : TypeTree) → Option ℤ → World → Did ℤ
result_as r q t None w = halts blocked w
result_as r q t (Some v) w = gives (as_type (number_type q) (number_type t) (as_type (number_type r) (number_type q) v)) w

-- ---- right sides

-- the value of a right side, converted to the type
abbrev pub right : Program → Locals → TypeTree → RhsTree → World → Did ℤ
right p ls t (value e) w = go_on (eval p ls e w) (λ v w. gives (as_type (number_of e) (number_type t) v) w)
right p ls t (call c q) w = go_on (called p ls c (pointee_of (taken_as q t)) w) (λ v w. result_as (function_of p.unit c.name).result (taken_as q t) t v w)

-- ---- left sides

-- a left side: a local, or an object at an address
pub data Left : Type 0 where
  to_local : ℕ → Left
  to_memory : (address : ℤ) → Left

abbrev pub kind_local : ExprKindTree → Option ℕ
kind_local (local x) = Some x
kind_local k = None

-- the local that the expression is, if it is one
abbrev pub local_of : ExprTree → Option ℕ
local_of l = kind_local (kind_of l)

abbrev pub left_at : Program → Locals → ExprTree → Option ℕ → World → Did Left
left_at p ls l (Some x) w = gives (to_local x) w
left_at p ls l None w = go_on (place p ls l w) (λ a w. gives (to_memory a) w)

abbrev pub left : Program → Locals → ExprTree → World → Did Left
left p ls l w = left_at p ls l (local_of l) w

-- the number that stands there
abbrev pub read_left : Program → Locals → ExprTree → Left → World → Did ℤ
read_left p ls l (to_local x) w = local_value (span_of l) x ls w
read_left p ls l (to_memory a) w = object_at p (span_of l) (type_of l) a w

-- the number is put there; the locals after that
abbrev pub write_left : Program → Locals → ExprTree → Left → ℤ → World → Did Locals
write_left p ls l (to_local x) v w = gives (slice_set ls x (Some v)) w
write_left p ls l (to_memory a) v w = go_on (store p.oracle (span_of l) (number_type (type_of l)) a v w) (λ u w. gives ls w)

-- what l op= e puts into an object of the type t, whose number is x, where e has the type u and the number y
abbrev pub updated : Program → Span → Binary → (t u : TypeTree) → ℤ → ℤ → World → Did ℤ
updated p s op (int t) (int u) x y w = go_on (on_integers s op t u x y w) (λ v w. gives (as_type (applied_in op t u) t v) w)
updated p s op t u x y w = operate p.unit s op t u x y w

-- ---- effects

-- the operand of a cast to void, and any other expression itself
abbrev pub operand_of : ExprTree → ExprTree
operand_of (node s t (cast void x)) = x
operand_of e = e

-- the locals after an effect: of an assignment the right side comes first, then the place of the left side, then its number if that is used
abbrev pub done : Program → Locals → EffectTree → World → Did Locals
done p ls (set l r s) w = go_on (right p ls (type_of l) r w) (λ v w. go_on (left p ls l w) (λ to w. write_left p ls l to v w))
done p ls (update op l e s) w =
    go_on (eval p ls e w)
    (λ y w. go_on (left p ls l w) (λ to w. go_on (read_left p ls l to w) (λ x w. go_on (updated p s op (type_of l) (value_type (type_of e)) x y w) (λ v w. write_left p ls l to v w))))
done p ls (call_alone c) w = go_on (called p ls c None w) (λ v w. gives ls w)
done p ls (value_alone e) w = go_on (eval p ls (operand_of e) w) (λ v w. gives ls w)

-- the locals after effects in order
abbrev pub all_done : Program → Locals → List EffectTree → World → Did Locals
all_done p ls [] w = gives ls w
all_done p ls (e ∷ es) w = go_on (done p ls e w) (λ ls w. all_done p ls es w)
