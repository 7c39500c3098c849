-- The types of expressions (C11 6.5), or the first rule that is broken: parts are judged before the whole, from left to right.
use Rattle.std.specs.Prelude.{ℕ, Option, Some, None, Ok, slice_get}
use Rattle.cx_base.specs.declared.span.Span.{Span}
use Rattle.cx_ctree.specs.Conversions.{signed_int}
use Rattle.cx_ctree.specs.Types.{TypeTree}
use Rattle.cx_ctree.specs.Exprs.{ExprTree, node, ExprKindTree, num, name, local, global, unary, binary, cond, cast, size_of, size_of_expr, index, member, arrow, deref, address}
use Rattle.cx_cname.specs.Known.{Meaning, a_constant, an_object}
use Rattle.cx_sname.specs.File.{Declared, meaning_of}
use Rattle.cx_scope.specs.Locals.{Locals, local_of}
use Rattle.cx_snode.specs.Judging.{Judged, breaks, ◌>>=◌}
use Rattle.cx_snode.specs.Nodes.{number_node, unary_node, binary_node, cond_node, cast_node, size_node, size_of_node, index_node, member_node, arrow_node, deref_node, address_node}

-- a name that is no local's
abbrev pub declared_node : Span → ℕ → Option Meaning → Judged ExprTree
declared_node s n (Some (a_constant v)) = Ok (number_node s v signed_int)
declared_node s n (Some (an_object t)) = Ok (node s t (global n))
declared_node s n _ = breaks s 1

-- the local of this number
abbrev pub local_node : Span → ℕ → Option TypeTree → Judged ExprTree
local_node s x None = breaks s 1
local_node s x (Some t) = Ok (node s t (local x))

-- a name, where it is told which local it stands for
abbrev pub name_node : Declared → Locals → Span → ℕ → Option ℕ → Judged ExprTree
name_node env ls s n None = declared_node s n (meaning_of env n)
name_node env ls s n (Some x) = local_node s x (slice_get ls.types x)

abbrev mutual
  pub typed : Declared → Locals → ExprTree → Judged ExprTree
  typed env ls (node s t k) = typed_kind env ls s k

  pub typed_kind : Declared → Locals → Span → ExprKindTree → Judged ExprTree
  typed_kind env ls s (num v t) = Ok (number_node s v t)
  typed_kind env ls s (name n) = name_node env ls s n (local_of ls n)
  typed_kind env ls s (local x) = breaks s 1
  typed_kind env ls s (global n) = breaks s 1
  typed_kind env ls s (unary op x) = typed env ls x >>= unary_node s op
  typed_kind env ls s (binary op x y) = typed env ls x >>= (λ a. typed env ls y >>= binary_node env.known s op a)
  typed_kind env ls s (cond c x y) = typed env ls c >>= (λ d. typed env ls x >>= (λ a. typed env ls y >>= cond_node env.known s d a))
  typed_kind env ls s (cast t x) = typed env ls x >>= cast_node s t
  typed_kind env ls s (size_of t) = size_node env.known s t
  typed_kind env ls s (size_of_expr x) = typed env ls x >>= size_of_node env.known s
  typed_kind env ls s (index x y) = typed env ls x >>= (λ a. typed env ls y >>= index_node env.known s a)
  typed_kind env ls s (member x m) = typed env ls x >>= (λ a. member_node env.known s a m)
  typed_kind env ls s (arrow x m) = typed env ls x >>= (λ a. arrow_node env.known s a m)
  typed_kind env ls s (deref x) = typed env ls x >>= deref_node env.known s
  typed_kind env ls s (address x) = typed env ls x >>= address_node s
