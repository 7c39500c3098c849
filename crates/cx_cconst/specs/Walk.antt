-- The type and the value of a constant expression, found together in one walk.
use Rattle.std.specs.Prelude.{ℤ, pos, Bool, false, ◌&&◌, is_some, Option, Some, None, option_map, if◌then◌else◌}
use Rattle.std.specs.Ordering.{int_eq}
use Rattle.std.specs.Option.{option_and_then}
use Rattle.cx_ctree.specs.declared.expr.Binary.{Binary}
use Rattle.cx_ctree.specs.declared.expr.Unary.{Unary}
use Rattle.cx_ctree.specs.Conversions.{signed_int, unsigned_long, promoted}
use Rattle.cx_ctree.specs.Types.{TypeTree, int, pointer, type_tree}
use Rattle.cx_ctree.specs.Exprs.{ExprTree, node, ExprKindTree, num, name, unary, binary, cond, cast, size_of}
use Rattle.cx_ctree.specs.Layouts as layout
use Rattle.cx_cname.specs.Known.{Known, value_of}
use Rattle.cx_cconst.specs.declared.scalar.Scalar.{Scalar}
use Rattle.cx_cconst.specs.declared.scalar.Scalar.TheVariants as s
use Rattle.cx_cconst.specs.declared.walk.Found.{Found}
use Rattle.cx_cconst.specs.Constants.{is_scalar, if_true, unary_type, binary_type, arms_type, is_zero, number_type, converted, unary_value, binary_value, decided, or_value, is_int}

abbrev pub scalar_tree : Scalar → TypeTree
scalar_tree (s.Int t) = int t
scalar_tree (s.Ptr t) = pointer (type_tree t.now)

-- a type, and a value where there is one
abbrev pub TypedValue : Type 0
TypedValue = TypeTree × Option ℤ

abbrev pub found_tree : Found → TypedValue
found_tree f = (scalar_tree f.ctype, f.value)

abbrev pub found_unary : Unary → TypedValue → Option TypedValue
found_unary op a = option_map (λ t. (t, option_map (unary_value op (promoted (number_type a.0))) a.1)) (unary_type op a.0)

-- the value of a binary operator on values of these types
abbrev pub both_value : Known → Binary → TypedValue → TypedValue → Option ℤ
both_value env op a b = option_and_then (λ v. or_value (decided op v) (option_and_then (binary_value env op a.0 b.0 v) b.1)) a.1

abbrev pub found_binary : Known → Binary → (zero other : Bool) → TypedValue → TypedValue → Option TypedValue
found_binary env op z o a b = option_map (λ t. (t, both_value env op a b)) (binary_type env op z o a.0 b.0)

-- the value of the chosen arm, in the type of both
abbrev pub chosen_value : TypeTree → Option ℤ → Option ℤ → Option ℤ → Option ℤ
chosen_value t q x y = option_and_then (λ q. option_map (converted (number_type t)) (if int_eq q (pos 0) then y else x)) q

abbrev pub found_cond : (zero other : Bool) → TypedValue → TypedValue → TypedValue → Option TypedValue
found_cond z o c a b = if is_scalar c.0 then option_map (λ t. (t, chosen_value t c.1 a.1 b.1)) (arms_type z o a.0 b.0) else None

abbrev pub found_cast : TypeTree → TypedValue → Option TypedValue
found_cast t a = if_true (is_scalar t && is_scalar a.0) (t, option_map (converted (number_type t)) a.1)

-- what was found, where it has an integer type
abbrev pub integer_found : Option TypedValue → Option ℤ
integer_found None = None
integer_found (Some p) = if is_int p.0 then p.1 else None

-- a value of a scalar type was found
abbrev pub is_found : Option TypedValue → Bool
is_found None = false
is_found (Some p) = is_scalar p.0 && is_some p.1

abbrev mutual
  pub found_in : Known → ExprTree → Option TypedValue
  found_in env (node s t k) = found_kind env k

  pub found_kind : Known → ExprKindTree → Option TypedValue
  found_kind env (num v t) = Some (int t, Some v)
  found_kind env (name n) = option_map (λ v. (int signed_int, Some v)) (value_of n env.consts)
  found_kind env (unary op x) = option_and_then (found_unary op) (found_in env x)
  found_kind env (binary op x y) = option_and_then (λ a. option_and_then (λ b. found_binary env op (is_zero env x) (is_zero env y) a b) (found_in env y)) (found_in env x)
  found_kind env (cond c x y) = option_and_then (λ q. option_and_then (λ a. option_and_then (λ b. found_cond (is_zero env x) (is_zero env y) q a b) (found_in env y)) (found_in env x)) (found_in env c)
  found_kind env (cast t x) = option_and_then (found_cast t) (found_in env x)
  found_kind env (size_of t) = option_map (λ n. (int unsigned_long, Some (pos n))) (layout.size_of env.tags t)
  found_kind env _ = None
