use Rattle.std.proofs.Common.{◌≡◌, length}
use Rattle.cx_form.specs.Rules.{are_in_order}
use Rattle.cx_form.proofs.rules.are_in_order.Given as goal

abbrev pub invariant-loop-cell : goal.invariant-loop-cell
invariant-loop-cell l = are_in_order l.cells_left l.members_left ≡ are_in_order l.cells l.members

abbrev pub decreases-loop-cell : goal.decreases-loop-cell
decreases-loop-cell l = length l.cells_left
