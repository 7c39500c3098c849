use Rattle.std.proofs.Common.{◌≡◌, map, drop}
use Rattle.cx_tsyn.specs.Lins.{lin_tree}
use Rattle.cx_tscope.specs.Faults.{first}
use Rattle.cx_tnames.specs.Unknown.{unknown_in_lins}
use Rattle.cx_tnames.proofs.lins.unknown_in_lins.Given as goal

abbrev pub invariant-loop-lin : goal.invariant-loop-lin
invariant-loop-lin l = first (unknown_in_lins l.names (map lin_tree (drop l.lin-index l.lins))) ≡ first (unknown_in_lins l.names (map lin_tree l.lins))
