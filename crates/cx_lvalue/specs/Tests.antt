-- Which expressions have a test of their own.
use Rattle.std.specs.Prelude.{Bool, true, false}
use Rattle.cx_ctree.specs.Exprs.{ExprTree, node, ExprKindTree, unary, binary}
use Rattle.cx_ctree.specs.declared.expr.Unary.TheVariants.{Not}
use Rattle.cx_lcode.specs.Places.{Sort, computing, sort_of}

-- a test's code is not that of its value
abbrev pub tests : Sort → Bool
tests computing = false
tests z = true

abbrev pub kind_tests : ExprKindTree → Bool
kind_tests (unary Not x) = true
kind_tests (binary op x y) = tests (sort_of op)
kind_tests k = false

abbrev pub tests_itself : ExprTree → Bool
tests_itself (node s t k) = kind_tests k
