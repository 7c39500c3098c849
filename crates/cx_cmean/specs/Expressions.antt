-- What an expression gives (C11 6.5), of which the types are known and the names are gone: operands from left to right, and each
-- read of memory after the next change by others.
use Rattle.std.specs.Prelude.{ℕ, ◌==◌, ℤ, pos, ◌+ℤ◌, true, false, not, if◌then◌else◌}
use Rattle.cx_base.specs.declared.span.Span.{Span}
use Rattle.cx_cconst.specs.Constants.{number_type, converted}
use Rattle.cx_ctree.specs.Conversions.{unsigned_long}
use Rattle.cx_ctree.specs.Exprs.{ExprTree, node, ExprKindTree, num, name, local, global, unary, binary, cond, cast, size_of, size_of_expr, index, member, arrow, deref, address, type_of}
use Rattle.cx_ctree.specs.Types.{TypeTree, int, pointer}
use Rattle.cx_ctree.specs.declared.expr.Binary.TheVariants as b
use Rattle.cx_cmean.specs.Numbers.{value_type, number_of, as_type, is_zero, as_number, on_one, operate}
use Rattle.cx_cmean.specs.Program.{Program, size_in, offset_in}
use Rattle.cx_world.specs.Access.{load, address_of}
use Rattle.cx_world.specs.World.{World, Locals, local_value, Did, gives, halts, go_on, blocked}

-- what stands at an address: an object of a scalar type is read, and an array is its address
abbrev pub object_at : Program → Span → TypeTree → ℤ → World → Did ℤ
object_at p s (int t) a w = load p.oracle s t a w
object_at p s (pointer t) a w = load p.oracle s unsigned_long a w
object_at p s _ a w = gives a w

-- an address so many bytes further on
abbrev pub further : ℕ → ℤ → ℤ
further off a = if off == 0 then a else converted unsigned_long (a +ℤ pos off)

-- what a pointer points to
abbrev pub target : TypeTree → TypeTree
target (pointer t) = t
target t = t

abbrev mutual
  -- the value of an expression
  pub eval : Program → Locals → ExprTree → World → Did ℤ
  eval p ls (node s t k) w = eval_kind p ls s t k w

  pub eval_kind : Program → Locals → Span → TypeTree → ExprKindTree → World → Did ℤ
  eval_kind p ls s t (num v n) w = gives v w
  eval_kind p ls s t (name n) w = halts blocked w
  eval_kind p ls s t (local x) w = local_value s x ls w
  eval_kind p ls s t (global n) w = object_at p s t (address_of p.oracle n w) w
  eval_kind p ls s t (unary op x) w = go_on (eval p ls x w) (λ v w. gives (on_one op (number_of x) (number_type t) v) w)
  eval_kind p ls s t (binary b.And x y) w = as_number (go_on (eval p ls x w) (λ v w. if is_zero v then gives false w else go_on (eval p ls y w) (λ v w. gives (not (is_zero v)) w)))
  eval_kind p ls s t (binary b.Or x y) w = as_number (go_on (eval p ls x w) (λ v w. if is_zero v then go_on (eval p ls y w) (λ v w. gives (not (is_zero v)) w) else gives true w))
  eval_kind p ls s t (binary op x y) w =
      go_on (eval p ls x w) (λ v w. go_on (eval p ls y w) (λ u w. operate p.unit s op (value_type (type_of x)) (value_type (type_of y)) v u w))
  eval_kind p ls s t (cond c x y) w =
      go_on (eval p ls c w)
      (λ v w. if is_zero v then go_on (eval p ls y w) (λ v w. gives (as_type (number_of y) (number_type t) v) w) else go_on (eval p ls x w) (λ v w. gives (as_type (number_of x) (number_type t) v) w))
  eval_kind p ls s t (cast q x) w = go_on (eval p ls x w) (λ v w. gives (as_type (number_of x) (number_type t) v) w)
  eval_kind p ls s t (size_of q) w = gives (pos (size_in p.unit q)) w
  eval_kind p ls s t (size_of_expr x) w = gives (pos (size_in p.unit (type_of x))) w
  eval_kind p ls s t (index x y) w =
      go_on (eval p ls x w) (λ v w. go_on (eval p ls y w) (λ u w. go_on (operate p.unit s b.Add (value_type (type_of x)) (value_type (type_of y)) v u w) (λ a w. object_at p s t a w)))
  eval_kind p ls s t (member x m) w = go_on (place p ls x w) (λ a w. object_at p s t (further (offset_in p.unit (type_of x) m) a) w)
  eval_kind p ls s t (arrow x m) w = go_on (eval p ls x w) (λ a w. object_at p s t (further (offset_in p.unit (target (value_type (type_of x))) m) a) w)
  eval_kind p ls s t (deref x) w = go_on (eval p ls x w) (λ a w. object_at p s t a w)
  eval_kind p ls s t (address x) w = place p ls x w

  -- the address of an object in memory
  pub place : Program → Locals → ExprTree → World → Did ℤ
  place p ls (node s t k) w = place_kind p ls s k w

  pub place_kind : Program → Locals → Span → ExprKindTree → World → Did ℤ
  place_kind p ls s (global n) w = gives (address_of p.oracle n w) w
  place_kind p ls s (index x y) w = go_on (eval p ls x w) (λ v w. go_on (eval p ls y w) (λ u w. operate p.unit s b.Add (value_type (type_of x)) (value_type (type_of y)) v u w))
  place_kind p ls s (member x m) w = go_on (place p ls x w) (λ a w. gives (further (offset_in p.unit (type_of x) m) a) w)
  place_kind p ls s (arrow x m) w = go_on (eval p ls x w) (λ a w. gives (further (offset_in p.unit (target (value_type (type_of x))) m) a) w)
  place_kind p ls s (deref x) w = eval p ls x w
  place_kind p ls s _ w = halts blocked w
