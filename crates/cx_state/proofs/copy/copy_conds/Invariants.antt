use Rattle.std.proofs.Common.{◌≡◌, take}
use Rattle.cx_state.proofs.copy.copy_conds.Given as goal

abbrev pub invariant-loop-c : goal.invariant-loop-c
invariant-loop-c l = l.copy ≡ take l.c-index l.conds
