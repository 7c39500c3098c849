use Rattle.std.proofs.Common.{refl, arith}
use Rattle.cx_cells.proofs.Order.{in_order}
use Rattle.cx_cells.proofs.kept.order.are_in_order.Goals as goal

pub returns : goal.returns
returns c = ((λ h. in_order c.args.cells.now (λ k d l. c.loop-i.invariant k d (omega arith))), (λ h. refl))
