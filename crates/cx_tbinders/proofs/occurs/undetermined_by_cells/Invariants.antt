use Rattle.std.proofs.Common.{◌≡◌, map, drop}
use Rattle.cx_tsyn.specs.Words.{word_tree}
use Rattle.cx_tsyn.specs.Cells.{cell_tree}
use Rattle.cx_tscope.specs.Faults.{first}
use Rattle.cx_tbinders.specs.Uses.{undetermined_by_cells}
use Rattle.cx_tbinders.proofs.occurs.undetermined_by_cells.Given as goal

abbrev pub invariant-loop-binder : goal.invariant-loop-binder
invariant-loop-binder l = first (undetermined_by_cells (map cell_tree l.cells) (map word_tree (drop l.binder-index l.binders))) ≡ first (undetermined_by_cells (map cell_tree l.cells) (map word_tree l.binders))
