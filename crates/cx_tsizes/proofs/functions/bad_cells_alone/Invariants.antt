use Rattle.std.proofs.Common.{◌≡◌, map, drop}
use Rattle.cx_tsyn.specs.Cells.{cell_tree}
use Rattle.cx_tscope.specs.Faults.{first}
use Rattle.cx_tsizes.specs.BadSizes.{bad_cells_alone}
use Rattle.cx_tmeasure.specs.Views.{known_of}
use Rattle.cx_tsizes.proofs.functions.bad_cells_alone.Given as goal

abbrev pub invariant-loop-cell : goal.invariant-loop-cell
invariant-loop-cell l = first (bad_cells_alone (known_of l.known) (map cell_tree (drop l.cell-index l.cells))) ≡ first (bad_cells_alone (known_of l.known) (map cell_tree l.cells))
