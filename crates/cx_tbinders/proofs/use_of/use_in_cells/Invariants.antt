use Rattle.std.proofs.Common.{◌≡◌, map, drop}
use Rattle.cx_tsyn.specs.Cells.{cell_tree}
use Rattle.cx_tbinders.specs.Uses.{use_in_cells}
use Rattle.cx_tbinders.proofs.use_of.use_in_cells.Given as goal

abbrev pub invariant-loop-cell : goal.invariant-loop-cell
invariant-loop-cell l = use_in_cells l.text (map cell_tree (drop l.cell-index l.cells)) ≡ use_in_cells l.text (map cell_tree l.cells)
