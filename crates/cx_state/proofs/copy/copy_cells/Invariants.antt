use Rattle.std.proofs.Common.{◌≡◌, take}
use Rattle.cx_state.proofs.copy.copy_cells.Given as goal

abbrev pub invariant-loop-c : goal.invariant-loop-c
invariant-loop-c l = l.copy ≡ take l.c-index l.cells
