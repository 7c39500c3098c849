use Rattle.std.proofs.Common.{◌≡◌, map, drop}
use Rattle.cx_tsyn.specs.Lins.{lin_tree}
use Rattle.cx_tscope.specs.Faults.{first}
use Rattle.cx_tforms.specs.Faulty.{faulty_lins}
use Rattle.cx_tforms.proofs.forms.faulty_lins.Given as goal

abbrev pub invariant-loop-lin : goal.invariant-loop-lin
invariant-loop-lin l = first (faulty_lins (map lin_tree (drop l.lin-index l.lins))) ≡ first (faulty_lins (map lin_tree l.lins))
