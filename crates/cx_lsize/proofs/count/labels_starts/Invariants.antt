use Rattle.std.proofs.Common.{◌≡◌, ◌+◌, ◌≤◌, map, min, option_map, drop}
use Rattle.cx_ctree.specs.Exprs.{expr_tree}
use Rattle.cx_lcode.specs.Starts as spec
use Rattle.cx_lsize.proofs.count.labels_starts.Given as goal

abbrev pub invariant-loop-label : goal.invariant-loop-label
invariant-loop-label l = (min (l.n + spec.labels_starts (map (option_map expr_tree) (drop l.label-index l.labels))) 600 ≡ min (spec.labels_starts (map (option_map expr_tree) l.labels)) 600) × (l.n ≤ 600)
