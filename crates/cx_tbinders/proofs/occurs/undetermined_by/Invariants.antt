use Rattle.std.proofs.Common.{◌≡◌, map, drop}
use Rattle.cx_tsyn.specs.Words.{word_tree}
use Rattle.cx_tsyn.specs.Types.{stype_tree}
use Rattle.cx_tscope.specs.Faults.{first}
use Rattle.cx_tbinders.specs.Uses.{undetermined_by}
use Rattle.cx_tbinders.proofs.occurs.undetermined_by.Given as goal

abbrev pub invariant-loop-binder : goal.invariant-loop-binder
invariant-loop-binder l = first (undetermined_by (stype_tree l.t) (map word_tree (drop l.binder-index l.binders))) ≡ first (undetermined_by (stype_tree l.t) (map word_tree l.binders))
