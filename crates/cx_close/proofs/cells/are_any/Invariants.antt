use Rattle.std.proofs.Common.{◌≡◌, drop}
use Rattle.cx_close.specs.Closing.{are_any}
use Rattle.cx_close.proofs.cells.are_any.Given as goal

abbrev pub invariant-loop-c : goal.invariant-loop-c
invariant-loop-c l = are_any (drop l.c-index l.cells) ≡ are_any l.cells
