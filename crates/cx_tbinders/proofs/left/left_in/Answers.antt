use Rattle.std.proofs.Common.{ap, ◌∙◌}
use Rattle.cx_tsyn.specs.Lins.{lin_tree}
use Rattle.cx_tscope.specs.Faults.{first}
use Rattle.cx_tnumber.specs.Sums.{summed}
use Rattle.cx_tbinders.proofs.Told.{left_is}
use Rattle.cx_tbinders.proofs.left.left_in.Goals as goal

pub returns : goal.returns
returns c = c.left_by.ensures ∙ ap first (left_is c.args.names.now c.args.n (summed c.in_ok-sums.sums) (lin_tree c.args.lin.now) c.in_ok-sums.ensures)
