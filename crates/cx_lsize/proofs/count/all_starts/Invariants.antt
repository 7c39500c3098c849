use Rattle.std.proofs.Common.{◌≡◌, ◌+◌, ◌≤◌, map, min, option_map, drop}
use Rattle.cx_ctree.specs.Exprs.{expr_tree}
use Rattle.cx_lcode.specs.Starts as spec
use Rattle.cx_lsize.proofs.count.all_starts.Given as goal

abbrev pub invariant-loop-e : goal.invariant-loop-e
invariant-loop-e l = (min (l.n + spec.all_starts (map expr_tree (drop l.e-index l.es))) 600 ≡ min (spec.all_starts (map expr_tree l.es)) 600) × (l.n ≤ 600)
