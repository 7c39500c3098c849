-- Calls and the values that are taken (C11 6.5.2.2, 6.5.16.1), or the first rule on types that is broken.
use Rattle.std.specs.Prelude.{ℕ, Bool, true, false, not, ◌&&◌, ◌||◌, ◌==◌, List, ◌∷◌, length, Option, Some, None, is_some, Ok, if◌then◌else◌}
use Rattle.std.specs.List.{list_all}
use Rattle.cx_base.specs.declared.span.Span.{Span}
use Rattle.cx_ctree.specs.Types.{TypeTree, void}
use Rattle.cx_ctree.specs.Exprs.{ExprTree, span_of, type_of, CallTree, RhsTree, value, call}
use Rattle.cx_cname.specs.Known.{Meaning, a_function}
use Rattle.cx_ctype.specs.Operations.{value_type, is_scalar, is_zero, cast_type, is_assignable}
use Rattle.cx_sname.specs.File.{Declared, meaning_of}
use Rattle.cx_scope.specs.Locals.{Locals}
use Rattle.cx_snode.specs.Judging.{Judged, breaks, judged_all, ◌>>=◌}
use Rattle.cx_snode.specs.Nodes.{value_of}
use Rattle.cx_sexpr.specs.Typing.{typed}

abbrev pub is_void : TypeTree → Bool
is_void void = true
is_void _ = false

-- ---- values that are taken

-- a value for an object, with the type of the expression that has it and its place; the mark tells the constant 0
pub record Taken : Type 0 where
  pub tree : RhsTree
  pub ctype : TypeTree
  pub zero : Bool
  pub span : Span

-- the value may be assigned to an object of the type
abbrev pub fits_in : TypeTree → Taken → Bool
fits_in t v = is_assignable v.zero (value_type v.ctype) t

-- the right side of an assignment to an object of the type
abbrev pub assigned : TypeTree → Taken → Judged RhsTree
assigned t v = if fits_in t v then Ok v.tree else breaks v.span 7

abbrev pub taken_value : Declared → ExprTree → Taken
taken_value env x = record { tree = value x; ctype = type_of x; zero = is_zero env.known x; span = span_of x }

-- ---- calls

-- the parameters of a function of n arguments are scalar, and so is its result, or it is void and nothing takes it
abbrev pub is_callable : (taken : Bool) → ℕ → (result : TypeTree) → (params : List TypeTree) → Bool
is_callable taken n r ps = (length ps == n) && list_all is_scalar ps && (is_scalar r || (not taken && is_void r))

-- the first argument whose value its parameter does not take
abbrev pub first_misfit : Declared → List ExprTree → (params : List TypeTree) → Option ExprTree
first_misfit env (x ∷ xs) (t ∷ ts) = if is_assignable (is_zero env.known x) (value_of x) t then first_misfit env xs ts else Some x
first_misfit env _ _ = None

-- a call that the function takes, unless an argument misfits
abbrev pub passed : {A : Type 0} → A → (misfit : Option ExprTree) → Judged A
passed c None = Ok c
passed c (Some x) = breaks (span_of x) 7

-- a call with its result's type
pub record TypedCall : Type 0 where
  pub tree : CallTree
  pub ctype : TypeTree

-- a call with typed arguments of a name that is declared as this
abbrev pub call_of : Declared → (taken : Bool) → CallTree → Option Meaning → Judged TypedCall
call_of env taken c (Some (a_function r ps)) =
    if is_callable taken (length c.args) r ps then passed (record { tree = c; ctype = r }) (first_misfit env c.args ps) else breaks c.span 8
call_of env taken c _ = breaks c.span 8

abbrev pub typed_call : Declared → Locals → (taken : Bool) → CallTree → Judged TypedCall
typed_call env ls taken c = judged_all (typed env ls) c.args >>= (λ args. call_of env taken (record c { args = args }) (meaning_of env c.name))

-- ---- right sides

abbrev pub called : Span → TypedCall → Option TypeTree → Judged Taken
called s c None = Ok (record { tree = call c.tree None; ctype = c.ctype; zero = false; span = s })
called s c (Some t) = if is_some (cast_type t (value_type c.ctype)) then Ok (record { tree = call c.tree (Some t); ctype = t; zero = false; span = s }) else breaks s 7

-- the right side of an assignment, an initialiser or a returned value
abbrev pub typed_rhs : Declared → Locals → RhsTree → Judged Taken
typed_rhs env ls (value x) = typed env ls x >>= (λ a. Ok (taken_value env a))
typed_rhs env ls (call c t) = typed_call env ls true c >>= (λ d. called c.span d t)
