use Rattle.std.proofs.Common.{◌≡◌, map, drop}
use Rattle.cx_tsyn.specs.Cells.{cell_tree}
use Rattle.cx_tscope.specs.Faults.{first}
use Rattle.cx_tforms.specs.Faulty.{faulty_in_cells}
use Rattle.cx_tforms.proofs.cells.faulty_in_cells.Given as goal

abbrev pub invariant-loop-cell : goal.invariant-loop-cell
invariant-loop-cell l = first (faulty_in_cells (map cell_tree (drop l.cell-index l.cells))) ≡ first (faulty_in_cells (map cell_tree l.cells))
