use Rattle.std.proofs.Common.{◌≡◌, ◌+◌, ◌≤◌, min, drop}
use Rattle.cx_ctree.specs.Stmts.{stmt_trees, group_trees}
use Rattle.cx_lcode.specs.Starts as spec
use Rattle.cx_lsize.proofs.count.+stmt_counted.Given as goal

abbrev pub invariant-groups_starts-loop-g : goal.invariant-groups_starts-loop-g
invariant-groups_starts-loop-g l = (min (l.n + spec.groups_starts (group_trees (drop l.g-index l.gs))) 600 ≡ min (spec.groups_starts (group_trees l.gs)) 600) × (l.n ≤ 600)

abbrev pub invariant-stmts_starts-loop-s : goal.invariant-stmts_starts-loop-s
invariant-stmts_starts-loop-s l = (min (l.n + spec.stmts_starts (stmt_trees (drop l.s-index l.ss))) 600 ≡ min (spec.stmts_starts (stmt_trees l.ss)) 600) × (l.n ≤ 600)
