use Rattle.std.proofs.Common.{◌≡◌, length, map}
use Rattle.cx_ctree.specs.Decls.{param_tree}
use Rattle.cx_scope.specs.Views.{locals_of}
use Rattle.cx_sema.specs.Functions.{typed_params}
use Rattle.cx_sema.proofs.function.declare_params.Given as goal

abbrev pub invariant-loop-rest : goal.invariant-loop-rest
invariant-loop-rest l = typed_params l.span (locals_of l.locals) (map param_tree l.rest) ≡ typed_params l.span (locals_of l.fn.locals) (map param_tree l.params)

abbrev pub decreases-loop-rest : goal.decreases-loop-rest
decreases-loop-rest l = length l.rest
