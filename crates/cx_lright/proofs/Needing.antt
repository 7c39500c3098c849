-- Code of a value uses a local at least.
use Rattle.std.proofs.Common.{ℕ, ◌≤◌, arith}
use Rattle.cx_cmean.specs.Numbers.{value_type}
use Rattle.cx_ctree.specs.Exprs.{ExprTree, node, ExprKindTree, num, name, local, global, unary, binary, cond, cast, size_of, size_of_expr, index, member, arrow, deref, address, type_of}
use Rattle.cx_ctree.specs.Types.{TypeTree, void, int, pointer, array, tag}
use Rattle.cx_ctree.specs.declared.expr.Unary.TheVariants as u
use Rattle.cx_lcode.specs.Needs.{Needs, by_value, by_test, two, operation_need, of_two, needs, kind_needs, place_need, kind_place_need}
use Rattle.cx_lcode.specs.Places.{Sort, both, either, comparing, computing, sort_of}
use Rattle.cx_sname.specs.File.{Declared}

pub record Ones (n : Needs) : Type 0 where
  pub val : 1 ≤ n.val
  pub test : 1 ≤ n.test

ones_by_value : (n : ℕ) → 1 ≤ n → Ones (by_value n)
ones_by_value n h = record { val = h; test = omega arith }

ones_by_test : (n : ℕ) → 1 ≤ n → Ones (by_test n)
ones_by_test n h = record { val = h; test = h }

one_of_two : (x y : ℕ) → 1 ≤ x → 1 ≤ two x y
one_of_two x y h = omega (arith, h)

pub both_in_operation : (t u : TypeTree) (x y : ℕ) → two x y ≤ operation_need t u x y
both_in_operation void u x y = omega arith
both_in_operation (int t) u x y = omega arith
both_in_operation (array t n) u x y = omega arith
both_in_operation (tag t) u x y = omega arith
both_in_operation (pointer t) void x y = omega arith
both_in_operation (pointer t) (int u) x y = omega arith
both_in_operation (pointer t) (pointer u) x y = omega arith
both_in_operation (pointer t) (array u n) x y = omega arith
both_in_operation (pointer t) (tag u) x y = omega arith

one_operation : (t u : TypeTree) (x y : ℕ) → 1 ≤ x → 1 ≤ operation_need t u x y
one_operation t u x y h = let b = both_in_operation t u x y in omega (arith, h, b)

ones_two : (z : Sort) (t u : TypeTree) (x y : Needs) → Ones x → Ones (of_two z t u x y)
ones_two both t u x y h = ones_by_test _ (let e = h.test in omega (arith, e))
ones_two either t u x y h = ones_by_test _ (let e = h.test in omega (arith, e))
ones_two comparing t u x y h = ones_by_test _ (one_of_two x.val y.val h.val)
ones_two computing t u x y h = ones_by_value _ (one_operation t u x.val y.val h.val)

mutual
  pub ones : (d : Declared) (e : ExprTree) → Ones (needs d e)
  ones d (node s t k) = kind_ones d k

  pub kind_ones : (d : Declared) (k : ExprKindTree) → Ones (kind_needs d k)
  kind_ones d (num v t) = ones_by_value 1 (omega arith)
  kind_ones d (name n) = ones_by_value 1 (omega arith)
  kind_ones d (local x) = ones_by_value 1 (omega arith)
  kind_ones d (global x) = ones_by_value 1 (omega arith)
  kind_ones d (unary u.Plus x) = ones_by_value _ (ones d x).val
  kind_ones d (unary u.Neg x) = ones_by_value _ (omega arith)
  kind_ones d (unary u.Compl x) = ones_by_value _ (omega arith)
  kind_ones d (unary u.Not x) = ones_by_test _ (ones d x).test
  kind_ones d (binary op x y) = ones_two (sort_of op) (value_type (type_of x)) (value_type (type_of y)) (needs d x) (needs d y) (ones d x)
  kind_ones d (cond c x y) = ones_by_value _ (let e = (ones d c).test in omega (arith, e))
  kind_ones d (cast q x) = ones_by_value _ (ones d x).val
  kind_ones d (size_of q) = ones_by_value 1 (omega arith)
  kind_ones d (size_of_expr x) = ones_by_value 1 (omega arith)
  kind_ones d (index x y) = ones_by_value _ (one_operation (value_type (type_of x)) (value_type (type_of y)) (needs d x).val (needs d y).val (ones d x).val)
  kind_ones d (member x m) = ones_by_value _ (let e = place_ones d x in omega (arith, e))
  kind_ones d (arrow x m) = ones_by_value _ (let e = (ones d x).val in omega (arith, e))
  kind_ones d (deref x) = ones_by_value _ (ones d x).val
  kind_ones d (address x) = ones_by_value _ (place_ones d x)

  pub place_ones : (d : Declared) (e : ExprTree) → 1 ≤ place_need d e
  place_ones d (node s t k) = kind_place_ones d k

  pub kind_place_ones : (d : Declared) (k : ExprKindTree) → 1 ≤ kind_place_need d k
  kind_place_ones d (num v t) = omega arith
  kind_place_ones d (name n) = omega arith
  kind_place_ones d (local x) = omega arith
  kind_place_ones d (global x) = omega arith
  kind_place_ones d (unary op x) = omega arith
  kind_place_ones d (binary op x y) = omega arith
  kind_place_ones d (cond c x y) = omega arith
  kind_place_ones d (cast q x) = omega arith
  kind_place_ones d (size_of q) = omega arith
  kind_place_ones d (size_of_expr x) = omega arith
  kind_place_ones d (index x y) = one_operation (value_type (type_of x)) (value_type (type_of y)) (needs d x).val (needs d y).val (ones d x).val
  kind_place_ones d (member x m) = let e = place_ones d x in omega (arith, e)
  kind_place_ones d (arrow x m) = let e = (ones d x).val in omega (arith, e)
  kind_place_ones d (deref x) = (ones d x).val
  kind_place_ones d (address x) = omega arith
