use Rattle.std.proofs.Common.{◌≡◌, map, drop}
use Rattle.cx_tsyn.specs.Lins.{lin_tree}
use Rattle.cx_tscope.specs.Faults.{first}
use Rattle.cx_tbinders.specs.Left.{left_in_lins}
use Rattle.cx_tbinders.proofs.left.left_in_lins.Given as goal

abbrev pub invariant-loop-lin : goal.invariant-loop-lin
invariant-loop-lin l = first (left_in_lins l.names l.n (map lin_tree (drop l.lin-index l.lins))) ≡ first (left_in_lins l.names l.n (map lin_tree l.lins))
