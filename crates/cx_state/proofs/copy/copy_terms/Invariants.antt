use Rattle.std.proofs.Common.{◌≡◌, take}
use Rattle.cx_state.proofs.copy.copy_terms.Given as goal

abbrev pub invariant-loop-t : goal.invariant-loop-t
invariant-loop-t l = l.copy ≡ take l.t-index l.terms
