use Rattle.std.proofs.Common.{◌≡◌, map, drop}
use Rattle.cx_tsyn.specs.Cells.{cell_tree}
use Rattle.cx_tscope.specs.Faults.{first}
use Rattle.cx_tnames.specs.Unknown.{unknown_in_cells}
use Rattle.cx_tnames.proofs.cells.unknown_in_cells.Given as goal

abbrev pub invariant-loop-cell : goal.invariant-loop-cell
invariant-loop-cell l = first (unknown_in_cells l.regions l.names (map cell_tree (drop l.cell-index l.cells))) ≡ first (unknown_in_cells l.regions l.names (map cell_tree l.cells))
