use Rattle.std.proofs.Common.{◌≡◌, map, drop}
use Rattle.cx_tsyn.specs.Items.{arg_tree}
use Rattle.cx_tscope.specs.Faults.{first}
use Rattle.cx_tnames.specs.Unknown.{unknown_in_arguments}
use Rattle.cx_tnames.proofs.items.unknown_in_arguments.Given as goal

abbrev pub invariant-loop-argument : goal.invariant-loop-argument
invariant-loop-argument l = first (unknown_in_arguments l.names (map arg_tree (drop l.argument-index l.arguments))) ≡ first (unknown_in_arguments l.names (map arg_tree l.arguments))
