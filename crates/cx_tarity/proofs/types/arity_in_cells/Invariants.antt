use Rattle.std.proofs.Common.{◌≡◌, map, drop}
use Rattle.cx_tsyn.specs.Cells.{cell_tree}
use Rattle.cx_tscope.specs.Faults.{first}
use Rattle.cx_tarity.specs.Known.{known_of}
use Rattle.cx_tarity.specs.Arity.{arity_in_cells}
use Rattle.cx_tarity.proofs.types.arity_in_cells.Given as goal

abbrev pub invariant-loop-cell : goal.invariant-loop-cell
invariant-loop-cell l = first (arity_in_cells (known_of l.known) (map cell_tree (drop l.cell-index l.cells))) ≡ first (arity_in_cells (known_of l.known) (map cell_tree l.cells))
