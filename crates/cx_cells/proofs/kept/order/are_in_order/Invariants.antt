use Rattle.cx_cells.proofs.Order.{NeighboursUpTo}
use Rattle.cx_cells.proofs.kept.order.are_in_order.Given as goal

abbrev pub invariant-loop-i : goal.invariant-loop-i
invariant-loop-i l = NeighboursUpTo l.i l.cells
