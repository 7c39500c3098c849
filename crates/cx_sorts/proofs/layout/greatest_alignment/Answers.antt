use Rattle.std.proofs.Common.{arith, ◌≤◌}
use Rattle.cx_sorts.proofs.Verdicts.{alignment_some}
use Rattle.cx_sorts.specs.Layout.{greatest_alignment}
use Rattle.cx_sorts.proofs.layout.greatest_alignment.Goals as goal

pub loop-m-init : goal.loop-m-init
loop-m-init c = let some : 1 ≤ greatest_alignment c.args.members.now = alignment_some c.args.members.now in (omega arith, omega arith, omega arith)
