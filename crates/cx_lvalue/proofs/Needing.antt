-- Each value and each test uses a local.
use Rattle.std.proofs.Common.{ℕ, ◌≤◌, arith}
use Rattle.cx_ctree.specs.Exprs.{ExprTree, node, ExprKindTree, num, name, local, global, unary, binary, cond, cast, size_of, size_of_expr, index, member, arrow, deref, address}
use Rattle.cx_ctree.specs.Types.{TypeTree, void, int, pointer, array, tag}
use Rattle.cx_ctree.specs.declared.expr.Unary.TheVariants as u
use Rattle.cx_lcode.specs.Needs.{Needs, by_value, by_test, two, operation_need, of_two, needs, kind_needs, place_need, kind_place_need}
use Rattle.cx_lcode.specs.Places.{Sort, both, either, comparing, computing, sort_of}
use Rattle.cx_sname.specs.File.{Declared}

pub record Some (n : Needs) : Type 0 where
  pub val : 1 ≤ n.val
  pub test : 1 ≤ n.test

some_by_value : (n : ℕ) → 1 ≤ n → Some (by_value n)
some_by_value n h = record { val = h; test = omega arith }

some_by_test : (n : ℕ) → 1 ≤ n → Some (by_test n)
some_by_test n h = record { val = h; test = h }

fits_operation : (t u : TypeTree) (x y : ℕ) → two x y ≤ operation_need t u x y
fits_operation (pointer t) (int u) x y = omega arith
fits_operation (pointer t) void x y = omega arith
fits_operation (pointer t) (pointer u) x y = omega arith
fits_operation (pointer t) (array u n) x y = omega arith
fits_operation (pointer t) (tag u) x y = omega arith
fits_operation void u x y = omega arith
fits_operation (int t) u x y = omega arith
fits_operation (array t n) u x y = omega arith
fits_operation (tag t) u x y = omega arith

some_operation : (t u : TypeTree) (x y : ℕ) → 1 ≤ operation_need t u x y
some_operation t u x y = let h = fits_operation t u x y in omega (arith, h)

some_of_two : (z : Sort) (t u : TypeTree) (x y : Needs) → Some x → Some y → Some (of_two z t u x y)
some_of_two both t u x y g h = let a = g.test in some_by_test _ (omega (arith, a))
some_of_two either t u x y g h = let a = g.test in some_by_test _ (omega (arith, a))
some_of_two comparing t u x y g h = let a = g.val in some_by_test _ (omega (arith, a))
some_of_two computing t u x y g h = some_by_value _ (some_operation t u x.val y.val)

mutual
  pub some_needed : (d : Declared) (e : ExprTree) → Some (needs d e)
  some_needed d (node s t k) = some_kind d k

  some_kind : (d : Declared) (k : ExprKindTree) → Some (kind_needs d k)
  some_kind d (num v t) = some_by_value 1 (omega arith)
  some_kind d (name n) = some_by_value 1 (omega arith)
  some_kind d (local x) = some_by_value 1 (omega arith)
  some_kind d (global x) = some_by_value 1 (omega arith)
  some_kind d (unary u.Plus x) = some_by_value _ (some_needed d x).val
  some_kind d (unary u.Neg x) = some_by_value _ (omega arith)
  some_kind d (unary u.Compl x) = some_by_value _ (omega arith)
  some_kind d (unary u.Not x) = some_by_test _ (some_needed d x).test
  some_kind d (binary op x y) = some_of_two (sort_of op) _ _ (needs d x) (needs d y) (some_needed d x) (some_needed d y)
  some_kind d (cond c x y) = let a = (some_needed d c).test in some_by_value _ (omega (arith, a))
  some_kind d (cast q x) = some_by_value _ (some_needed d x).val
  some_kind d (size_of q) = some_by_value 1 (omega arith)
  some_kind d (size_of_expr x) = some_by_value 1 (omega arith)
  some_kind d (index x y) = some_by_value _ (some_operation _ _ _ _)
  some_kind d (member x m) = let a = some_place d x in some_by_value _ (omega (arith, a))
  some_kind d (arrow x m) = let a = (some_needed d x).val in some_by_value _ (omega (arith, a))
  some_kind d (deref x) = some_by_value _ (some_needed d x).val
  some_kind d (address x) = some_by_value _ (some_place d x)

  pub some_place : (d : Declared) (e : ExprTree) → 1 ≤ place_need d e
  some_place d (node s t k) = some_kind_place d k

  some_kind_place : (d : Declared) (k : ExprKindTree) → 1 ≤ kind_place_need d k
  some_kind_place d (num v t) = omega arith
  some_kind_place d (name n) = omega arith
  some_kind_place d (local x) = omega arith
  some_kind_place d (global x) = omega arith
  some_kind_place d (unary op x) = omega arith
  some_kind_place d (binary op x y) = omega arith
  some_kind_place d (cond c x y) = omega arith
  some_kind_place d (cast q x) = omega arith
  some_kind_place d (size_of q) = omega arith
  some_kind_place d (size_of_expr x) = omega arith
  some_kind_place d (index x y) = some_operation _ _ _ _
  some_kind_place d (member x m) = let a = some_place d x in omega (arith, a)
  some_kind_place d (arrow x m) = let a = (some_needed d x).val in omega (arith, a)
  some_kind_place d (deref x) = (some_needed d x).val
  some_kind_place d (address x) = omega arith
