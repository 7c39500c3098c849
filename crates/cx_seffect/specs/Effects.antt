-- Assignments, calls and values that stand alone (C11 6.5.16, 6.8.3), or the first rule on types that is broken.
use Rattle.std.specs.Prelude.{Bool, true, false, ◌&&◌, ◌||◌, List, Option, Some, None, Ok, if◌then◌else◌}
use Rattle.cx_base.specs.declared.span.Span.{Span}
use Rattle.cx_ctree.specs.declared.expr.Binary.{Binary}
use Rattle.cx_ctree.specs.Types.{TypeTree, void}
use Rattle.cx_ctree.specs.Exprs.{ExprTree, node, span_of, type_of, local, cast, EffectTree, set, update, call_alone, value_alone}
use Rattle.cx_ctype.specs.Operations.{is_scalar, is_updatable, is_movable}
use Rattle.cx_ctype.specs.Accesses.{in_memory}
use Rattle.cx_sname.specs.File.{Declared}
use Rattle.cx_scope.specs.Locals.{Locals}
use Rattle.cx_snode.specs.Judging.{Judged, breaks, judged_all, ◌>>=◌}
use Rattle.cx_snode.specs.Nodes.{value_of}
use Rattle.cx_sexpr.specs.Typing.{typed}
use Rattle.cx_seffect.specs.Calls.{Taken, assigned, typed_call, typed_rhs}

abbrev pub is_local : ExprTree → Bool
is_local (node s t (local x)) = true
is_local _ = false

-- the expression may stand on the left of an assignment
abbrev pub is_place : ExprTree → Bool
is_place x = (is_local x || in_memory x) && is_scalar (type_of x)

abbrev pub set_node : Span → ExprTree → Taken → Judged EffectTree
set_node s l v = if is_place l then assigned (type_of l) v >>= (λ r. Ok (set l r s)) else breaks s 6

abbrev pub update_node : Declared → Span → Binary → ExprTree → ExprTree → Judged EffectTree
update_node env s op l x =
    if is_place l then (if is_updatable op (value_of l) (value_of x) then (if is_movable env.known (value_of l) then Ok (update op l x s) else breaks s 19) else breaks s 16) else breaks s 6

-- an expression whose value nothing takes
abbrev pub alone : ExprTree → Judged ExprTree
alone x = if is_scalar (value_of x) then Ok x else breaks (span_of x) 18

abbrev pub cast_to_void : Span → ExprTree → ExprTree
cast_to_void s x = node s void (cast void x)

-- the expression, where it is cast to void
abbrev pub away : (to : TypeTree) → ExprTree → Option ExprTree
away void x = Some x
away _ x = None

-- what is cast to void, where the expression is such a cast
abbrev pub cast_away : ExprTree → Option ExprTree
cast_away (node s t (cast w x)) = away w x
cast_away _ = None

-- the same, where it is told what the expression casts to void: as a whole such a cast takes any scalar value (C11 6.5.4)
abbrev pub alone_by : Declared → Locals → ExprTree → Option ExprTree → Judged ExprTree
alone_by env ls x None = typed env ls x >>= alone
alone_by env ls x (Some a) = typed env ls a >>= (λ b. alone b >>= (λ c. Ok (cast_to_void (span_of x) c)))

abbrev pub typed_alone : Declared → Locals → ExprTree → Judged ExprTree
typed_alone env ls x = alone_by env ls x (cast_away x)

unfoldable pub typed_effect : Declared → Locals → EffectTree → Judged EffectTree
typed_effect env ls (set l r s) = typed env ls l >>= (λ a. typed_rhs env ls r >>= set_node s a)
typed_effect env ls (update op l x s) = typed env ls l >>= (λ a. typed env ls x >>= update_node env s op a)
typed_effect env ls (call_alone c) = typed_call env ls false c >>= (λ d. Ok (call_alone d.tree))
typed_effect env ls (value_alone x) = typed_alone env ls x >>= (λ a. Ok (value_alone a))

abbrev pub typed_effects : Declared → Locals → List EffectTree → Judged (List EffectTree)
typed_effects env ls es = judged_all (typed_effect env ls) es

-- the condition of a statement (C11 6.8.4, 6.8.5)
abbrev pub typed_condition : Declared → Locals → ExprTree → Judged ExprTree
typed_condition env ls x = typed env ls x >>= (λ a. if is_scalar (value_of a) then Ok a else breaks (span_of a) 14)

abbrev pub typed_optional : Declared → Locals → Option ExprTree → Judged (Option ExprTree)
typed_optional env ls None = Ok None
typed_optional env ls (Some x) = typed_condition env ls x >>= (λ a. Ok (Some a))
