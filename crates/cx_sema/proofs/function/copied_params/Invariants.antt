use Rattle.std.proofs.Common.{◌≡◌, map, take}
use Rattle.cx_ctree.specs.Decls.{param_tree}
use Rattle.cx_sema.proofs.function.copied_params.Given as goal

abbrev pub invariant-loop-param : goal.invariant-loop-param
invariant-loop-param l = map param_tree l.copy ≡ map param_tree (take l.param-index l.params)
