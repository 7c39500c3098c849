-- What holds of an expression with its types, without a walk: each part keeps the rules on types and has the type that they give (C11 6.5), each local exists, and each layout that is asked for exists.
use Rattle.std.specs.Prelude.{◌≡◌, true, List, Some, slice_get}
use Rattle.cx_ctree.specs.Types.{TypeTree, int, pointer}
use Rattle.cx_ctree.specs.Exprs.{ExprTree, node, type_of, ExprKindTree, num, name, local, global, unary, binary, cond, cast, size_of, size_of_expr, index, member, arrow, deref, address}
use Rattle.cx_cname.specs.Known.{an_object}
use Rattle.cx_ctype.specs.Operations.{is_scalar, is_zero, unary_type, binary_type, arms_type, cast_type}
use Rattle.cx_ctype.specs.Accesses.{size_type, if_sized, in_memory}
use Rattle.cx_sname.specs.File.{Declared, meaning_of}
use Rattle.cx_snode.specs.Nodes.{value_of, element_of, target_of, placed_member}

abbrev mutual
  pub IsTyped : Declared → (locals : List TypeTree) → ExprTree → Type 0
  IsTyped env ls (node s t k) = IsTypedAs env ls t k

  -- such an expression of the type t
  pub IsTypedAs : Declared → (locals : List TypeTree) → (t : TypeTree) → ExprKindTree → Type 0
  IsTypedAs env ls t (num v w) = t ≡ int w
  IsTypedAs env ls t (name n) = ⊥
  IsTypedAs env ls t (local x) = slice_get ls x ≡ Some t
  IsTypedAs env ls t (global n) = meaning_of env n ≡ Some (an_object t)
  IsTypedAs env ls t (unary op x) = IsTyped env ls x × (unary_type op (value_of x) ≡ Some t)
  IsTypedAs env ls t (binary op x y) = IsTyped env ls x × IsTyped env ls y × (binary_type env.known op (is_zero env.known x) (is_zero env.known y) (value_of x) (value_of y) ≡ Some t)
  IsTypedAs env ls t (cond c x y) =
      IsTyped env ls c × IsTyped env ls x × IsTyped env ls y × (is_scalar (value_of c) ≡ true) × (arms_type (is_zero env.known x) (is_zero env.known y) (value_of x) (value_of y) ≡ Some t)
  IsTypedAs env ls t (cast w x) = IsTyped env ls x × (cast_type w (value_of x) ≡ Some t)
  IsTypedAs env ls t (size_of w) = size_type env.known w ≡ Some t
  IsTypedAs env ls t (size_of_expr x) = IsTyped env ls x × (size_type env.known (type_of x) ≡ Some t)
  IsTypedAs env ls t (index x y) = IsTyped env ls x × IsTyped env ls y × (if_sized env.known (element_of env.known x y) ≡ Some t)
  IsTypedAs env ls t (member x m) = IsTyped env ls x × (placed_member env.known (type_of x) m ≡ Some t)
  IsTypedAs env ls t (arrow x m) = IsTyped env ls x × (w : TypeTree) × (target_of env.known x ≡ Some w) × (placed_member env.known w m ≡ Some t)
  IsTypedAs env ls t (deref x) = IsTyped env ls x × (target_of env.known x ≡ Some t)
  IsTypedAs env ls t (address x) = IsTyped env ls x × (in_memory x ≡ true) × (t ≡ pointer (type_of x))
