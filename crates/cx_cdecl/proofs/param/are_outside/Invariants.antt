use Rattle.std.proofs.Common.{◌≡◌, length, map}
use Rattle.cx_ctree.specs.Decls.{param_tree}
use Rattle.cx_cdecl.specs.Declarations.{are_outside}
use Rattle.cx_cdecl.proofs.param.are_outside.Given as goal

abbrev pub decreases-loop-rest : goal.decreases-loop-rest
decreases-loop-rest l = length l.rest

abbrev pub invariant-loop-rest : goal.invariant-loop-rest
invariant-loop-rest l = are_outside (map param_tree l.params) l.rest ≡ are_outside (map param_tree l.params) l.names
