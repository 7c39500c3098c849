-- The type of an expression whose parts have their types (C11 6.5), or the rule on types that it breaks.
use Rattle.std.specs.Prelude.{ℕ, ℤ, Bool, Option, Some, None, is_some, Ok, Err, if◌then◌else◌}
use Rattle.cx_base.specs.declared.span.Span.{Span}
use Rattle.cx_base.specs.declared.number.CInt.{CInt}
use Rattle.cx_ctree.specs.declared.expr.Unary.{Unary}
use Rattle.cx_ctree.specs.declared.expr.Binary.{Binary}
use Rattle.cx_ctree.specs.Types.{TypeTree, void, int, pointer}
use Rattle.cx_ctree.specs.Exprs.{ExprTree, node, type_of, ExprKindTree, num, unary, binary, cond, cast, size_of, size_of_expr, index, member, arrow, deref, address}
use Rattle.cx_ctree.specs.Layouts as layout
use Rattle.cx_cname.specs.Known.{Known, is_complete}
use Rattle.cx_ctype.specs.Operations.{value_type, is_scalar, if_true, is_zero, unary_type, binary_type, arms_type, cast_type}
use Rattle.cx_ctype.specs.Accesses.{size_type, pointee, element, if_complete, if_sized, member_type, in_memory}
use Rattle.cx_ctype.specs.Rules.{unary_rule, binary_rule}
use Rattle.cx_snode.specs.Judging.{Judged, breaks, typed_or, ◌>>=◌}

-- the type of the value of an expression
abbrev pub value_of : ExprTree → TypeTree
value_of x = value_type (type_of x)

-- the expression with its type, where it has one
abbrev pub judged : Span → (rule : ℕ) → ExprKindTree → Option TypeTree → Judged ExprTree
judged s rule k t = typed_or s rule t >>= (λ t. Ok (node s t k))

abbrev pub number_node : Span → ℤ → CInt → ExprTree
number_node s v t = node s (int t) (num v t)

abbrev pub unary_node : Span → Unary → ExprTree → Judged ExprTree
unary_node s op x = judged s (unary_rule op) (unary op x) (unary_type op (value_of x))

abbrev pub binary_node : Known → Span → Binary → ExprTree → ExprTree → Judged ExprTree
binary_node env s op x y =
    judged s (binary_rule op (value_of x) (value_of y)) (binary op x y) (binary_type env op (is_zero env x) (is_zero env y) (value_of x) (value_of y))

-- the type of the arms of a conditional
abbrev pub arms_judged : Known → Span → ExprTree → ExprTree → Judged TypeTree
arms_judged env s x y = typed_or s 15 (arms_type (is_zero env x) (is_zero env y) (value_of x) (value_of y))

-- a conditional whose condition is scalar
abbrev pub chosen_node : Known → Span → ExprTree → ExprTree → ExprTree → Judged ExprTree
chosen_node env s c x y = arms_judged env s x y >>= (λ t. Ok (node s t (cond c x y)))

abbrev pub cond_node : Known → Span → ExprTree → ExprTree → ExprTree → Judged ExprTree
cond_node env s c x y = if is_scalar (value_of c) then chosen_node env s c x y else breaks s 14

abbrev pub cast_node : Span → TypeTree → ExprTree → Judged ExprTree
cast_node s t x = judged s 7 (cast t x) (cast_type t (value_of x))

-- the rule that is broken where the type has no size
abbrev pub size_rule : Known → TypeTree → ℕ
size_rule env t = if is_complete env t then 19 else 13

abbrev pub size_node : Known → Span → TypeTree → Judged ExprTree
size_node env s t = judged s (size_rule env t) (size_of t) (size_type env t)

abbrev pub size_of_node : Known → Span → ExprTree → Judged ExprTree
size_of_node env s x = judged s (size_rule env (type_of x)) (size_of_expr x) (size_type env (type_of x))

-- the complete type of an element
abbrev pub element_of : Known → ExprTree → ExprTree → Option TypeTree
element_of env x y = if_complete env (element (value_of x) (value_of y))

-- the rule that is broken where there is no such type with a size
abbrev pub index_rule : Option TypeTree → ℕ
index_rule t = if is_some t then 19 else 3

abbrev pub index_node : Known → Span → ExprTree → ExprTree → Judged ExprTree
index_node env s x y = judged s (index_rule (element_of env x y)) (index x y) (if_sized env (element_of env x y))

-- the complete type that the value of an expression points to
abbrev pub target_of : Known → ExprTree → Option TypeTree
target_of env x = if_complete env (pointee (value_of x))

abbrev pub deref_node : Known → Span → ExprTree → Judged ExprTree
deref_node env s x = judged s 3 (deref x) (target_of env x)

-- the rule that is broken where the member of this name has no place
abbrev pub member_rule : Known → TypeTree → ℕ → ℕ
member_rule env t m = if is_some (member_type env t m) then 19 else 4

-- the type of the member of this name of a struct or union that has a size
abbrev pub placed_member : Known → TypeTree → ℕ → Option TypeTree
placed_member env t m = if is_some (layout.size_of env.tags t) then member_type env t m else None

abbrev pub member_node : Known → Span → ExprTree → ℕ → Judged ExprTree
member_node env s x m = judged s (member_rule env (type_of x) m) (member x m) (placed_member env (type_of x) m)

-- a member of what is pointed to
abbrev pub arrow_to : Known → Span → ExprTree → ℕ → Option TypeTree → Judged ExprTree
arrow_to env s x m None = breaks s 3
arrow_to env s x m (Some t) = judged s (member_rule env t m) (arrow x m) (placed_member env t m)

abbrev pub arrow_node : Known → Span → ExprTree → ℕ → Judged ExprTree
arrow_node env s x m = arrow_to env s x m (target_of env x)

abbrev pub address_node : Span → ExprTree → Judged ExprTree
address_node s x = judged s 5 (address x) (if_true (in_memory x) (pointer (type_of x)))
