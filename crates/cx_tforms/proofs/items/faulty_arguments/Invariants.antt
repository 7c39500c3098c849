use Rattle.std.proofs.Common.{◌≡◌, map, drop}
use Rattle.cx_tsyn.specs.Items.{arg_tree}
use Rattle.cx_tscope.specs.Faults.{first}
use Rattle.cx_tforms.specs.Faulty.{faulty_arguments}
use Rattle.cx_tforms.proofs.items.faulty_arguments.Given as goal

abbrev pub invariant-loop-argument : goal.invariant-loop-argument
invariant-loop-argument l = first (faulty_arguments (map arg_tree (drop l.argument-index l.arguments))) ≡ first (faulty_arguments (map arg_tree l.arguments))
