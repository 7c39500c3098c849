use Rattle.std.proofs.Common.{◌≡◌, ◌++◌, length}
use Rattle.cx_cdecl.proofs.param.add_names.Given as goal

abbrev pub decreases-loop-rest : goal.decreases-loop-rest
decreases-loop-rest l = length l.rest

abbrev pub invariant-loop-rest : goal.invariant-loop-rest
invariant-loop-rest l = l.names ++ l.rest ≡ l.fn.names ++ l.more
