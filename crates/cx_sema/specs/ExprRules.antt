-- Which types an expression has (C11 6.5), without a walk: its parts have types, and the rule on types gives that of the whole.
use Rattle.std.specs.Prelude.{◌≡◌, ℕ, true, Option, Some, None, slice_get}
use Rattle.cx_base.specs.declared.span.Span.{Span}
use Rattle.cx_ctree.specs.Conversions.{signed_int}
use Rattle.cx_ctree.specs.Types.{TypeTree, pointer}
use Rattle.cx_ctree.specs.Exprs.{ExprTree, node, type_of, ExprKindTree, num, name, local, global, unary, binary, cond, cast, size_of, size_of_expr, index, member, arrow, deref, address}
use Rattle.cx_cname.specs.Known.{Meaning, a_constant, an_object}
use Rattle.cx_ctype.specs.Operations.{is_scalar, is_zero, unary_type, binary_type, arms_type, cast_type}
use Rattle.cx_ctype.specs.Accesses.{size_type, if_sized, in_memory}
use Rattle.cx_sname.specs.File.{Declared, meaning_of}
use Rattle.cx_scope.specs.Locals.{Locals, local_of}
use Rattle.cx_snode.specs.Nodes.{number_node, value_of, element_of, target_of, placed_member}

-- a name that is no local's stands for an object of the file or for a constant, which is its number (C11 6.5.1, 6.7.2.2)
abbrev pub StandsFor : Span → ℕ → Option Meaning → ExprTree → Type 0
StandsFor s n (Some (a_constant v)) y = y ≡ number_node s v signed_int
StandsFor s n (Some (an_object t)) y = y ≡ node s t (global n)
StandsFor s n _ y = ⊥

-- a name stands for the local that is in scope, else for what the file declares (C11 6.2.1)
abbrev pub IsNamed : Declared → Locals → Span → ℕ → Option ℕ → ExprTree → Type 0
IsNamed env ls s n None y = StandsFor s n (meaning_of env n) y
IsNamed env ls s n (Some x) y = (t : TypeTree) × (slice_get ls.types x ≡ Some t) × (y ≡ node s t (local x))

abbrev mutual
  -- y is the expression with its types
  pub HasTypes : Declared → Locals → ExprTree → ExprTree → Type 0
  HasTypes env ls (node s w k) y = HasTypesAs env ls s k y

  -- constants 6.4.4, names 6.5.1, unary operators 6.5.3.3, binary operators 6.5.5 to 6.5.14, conditionals 6.5.15, casts 6.5.4, sizes 6.5.3.4, elements 6.5.2.1, members 6.5.2.3, addresses 6.5.3.2
  pub HasTypesAs : Declared → Locals → Span → ExprKindTree → ExprTree → Type 0
  HasTypesAs env ls s (num v w) y = y ≡ number_node s v w
  HasTypesAs env ls s (name n) y = IsNamed env ls s n (local_of ls n) y
  HasTypesAs env ls s (local x) y = ⊥
  HasTypesAs env ls s (global n) y = ⊥
  HasTypesAs env ls s (unary op x) y = (a : ExprTree) × HasTypes env ls x a × (t : TypeTree) × (unary_type op (value_of a) ≡ Some t) × (y ≡ node s t (unary op a))
  HasTypesAs env ls s (binary op x z) y =
      (a : ExprTree) × HasTypes env ls x a × (b : ExprTree) × HasTypes env ls z b
      × (t : TypeTree) × (binary_type env.known op (is_zero env.known a) (is_zero env.known b) (value_of a) (value_of b) ≡ Some t) × (y ≡ node s t (binary op a b))
  HasTypesAs env ls s (cond c x z) y =
      (d : ExprTree) × HasTypes env ls c d × (a : ExprTree) × HasTypes env ls x a × (b : ExprTree) × HasTypes env ls z b × (is_scalar (value_of d) ≡ true)
      × (t : TypeTree) × (arms_type (is_zero env.known a) (is_zero env.known b) (value_of a) (value_of b) ≡ Some t) × (y ≡ node s t (cond d a b))
  HasTypesAs env ls s (cast w x) y = (a : ExprTree) × HasTypes env ls x a × (t : TypeTree) × (cast_type w (value_of a) ≡ Some t) × (y ≡ node s t (cast w a))
  HasTypesAs env ls s (size_of w) y = (t : TypeTree) × (size_type env.known w ≡ Some t) × (y ≡ node s t (size_of w))
  HasTypesAs env ls s (size_of_expr x) y = (a : ExprTree) × HasTypes env ls x a × (t : TypeTree) × (size_type env.known (type_of a) ≡ Some t) × (y ≡ node s t (size_of_expr a))
  HasTypesAs env ls s (index x z) y =
      (a : ExprTree) × HasTypes env ls x a × (b : ExprTree) × HasTypes env ls z b
      × (t : TypeTree) × (if_sized env.known (element_of env.known a b) ≡ Some t) × (y ≡ node s t (index a b))
  HasTypesAs env ls s (member x m) y = (a : ExprTree) × HasTypes env ls x a × (t : TypeTree) × (placed_member env.known (type_of a) m ≡ Some t) × (y ≡ node s t (member a m))
  HasTypesAs env ls s (arrow x m) y =
      (a : ExprTree) × HasTypes env ls x a × (w : TypeTree) × (target_of env.known a ≡ Some w) × (t : TypeTree) × (placed_member env.known w m ≡ Some t) × (y ≡ node s t (arrow a m))
  HasTypesAs env ls s (deref x) y = (a : ExprTree) × HasTypes env ls x a × (t : TypeTree) × (target_of env.known a ≡ Some t) × (y ≡ node s t (deref a))
  HasTypesAs env ls s (address x) y = (a : ExprTree) × HasTypes env ls x a × (in_memory a ≡ true) × (y ≡ node s (pointer (type_of a)) (address a))
