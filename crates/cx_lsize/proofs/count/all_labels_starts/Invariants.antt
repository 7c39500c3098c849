use Rattle.std.proofs.Common.{◌≡◌, ◌+◌, ◌≤◌, map, min, option_map, drop}
use Rattle.cx_ctree.specs.Stmts.{group_trees}
use Rattle.cx_lcode.specs.Starts as spec
use Rattle.cx_lsize.proofs.count.all_labels_starts.Given as goal

abbrev pub invariant-loop-g : goal.invariant-loop-g
invariant-loop-g l = (min (l.n + spec.all_labels_starts (group_trees (drop l.g-index l.gs))) 600 ≡ min (spec.all_labels_starts (group_trees l.gs)) 600) × (l.n ≤ 600)
