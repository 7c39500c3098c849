use Rattle.std.proofs.Common.{◌≡◌, map, drop}
use Rattle.cx_tsyn.specs.Lins.{lin_tree}
use Rattle.cx_tbinders.specs.Uses.{use_in_args}
use Rattle.cx_tbinders.proofs.use_of.use_in_args.Given as goal

abbrev pub invariant-loop-arg : goal.invariant-loop-arg
invariant-loop-arg l = use_in_args l.firm l.text (map lin_tree (drop l.arg-index l.args)) ≡ use_in_args l.firm l.text (map lin_tree l.args)
