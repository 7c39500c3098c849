use Rattle.std.proofs.Common.{ℕ, ◌<◌, ◌≤◌}
use Rattle.std.specs.Prelude.{IsSome}
use Rattle.cx_cells.specs.Symbols.{telling_cell}
use Rattle.cx_cells.proofs.kept.cells.all_told.Given as goal

abbrev pub invariant-loop-s : goal.invariant-loop-s
invariant-loop-s l = (t : ℕ) → l.first ≤ t → t < l.s → IsSome (telling_cell t l.cells)
