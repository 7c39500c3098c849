use Rattle.std.proofs.Common.{◌≡◌, length, map}
use Rattle.cx_ctree.specs.Exprs.{expr_tree}
use Rattle.cx_ctree.specs.Decls.{param_tree}
use Rattle.cx_sfile.specs.Views.{declared_in}
use Rattle.cx_seffect.specs.Calls.{first_misfit}
use Rattle.cx_seffect.proofs.call.first_misfit.Given as goal

abbrev pub invariant-loop-rest : goal.invariant-loop-rest
invariant-loop-rest l =
    first_misfit (declared_in l.file) (map expr_tree l.rest) (map (λ p. p.ctype) (map param_tree l.others))
    ≡ first_misfit (declared_in l.file) (map expr_tree l.args) (map (λ p. p.ctype) (map param_tree l.params))

abbrev pub decreases-loop-rest : goal.decreases-loop-rest
decreases-loop-rest l = length l.rest
