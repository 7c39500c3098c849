-- Lists that grow at their ends, and heights.
use Rattle.std.proofs.Common.{◌≡◌, ℕ, ◌≤◌, List, [], ◌∷◌, ◌++◌, refl, ap, arith}
use Rattle.std.specs.Prelude.{map, max}
use Rattle.cx_base.proofs.General.{map_push}
use Rattle.cx_ctree.specs.Exprs.{ExprTree, node}
use Rattle.cx_ctree.specs.Path.{greatest, expr_path}

pub greatest_push : {A : Type 0} (f : A → ℕ) (xs : List A) (x : A) → greatest f (xs ++ x ∷ []) ≡ max (greatest f xs) (f x)
greatest_push f [] x = omega arith
greatest_push f (y ∷ xs) x = let h = greatest_push f xs x in omega (arith, h)

pub some_path : (x : ExprTree) → 1 ≤ expr_path x
some_path (node s t k) = omega arith
