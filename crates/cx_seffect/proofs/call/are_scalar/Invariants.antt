use Rattle.std.proofs.Common.{◌≡◌, length, map}
use Rattle.std.specs.List.{list_all}
use Rattle.cx_ctree.specs.Decls.{param_tree}
use Rattle.cx_ctype.specs.Operations.{is_scalar}
use Rattle.cx_seffect.proofs.call.are_scalar.Given as goal

abbrev pub invariant-loop-rest : goal.invariant-loop-rest
invariant-loop-rest l = list_all is_scalar (map (λ p. p.ctype) (map param_tree l.rest)) ≡ list_all is_scalar (map (λ p. p.ctype) (map param_tree l.params))

abbrev pub decreases-loop-rest : goal.decreases-loop-rest
decreases-loop-rest l = length l.rest
