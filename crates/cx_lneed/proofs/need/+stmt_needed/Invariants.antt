use Rattle.std.proofs.Common.{◌≡◌, ◌≤◌, min, max, drop}
use Rattle.cx_ctree.specs.Stmts.{stmt_trees, group_trees}
use Rattle.cx_lcode.specs.Needs as spec
use Rattle.cx_sname.specs.File.{declared_of}
use Rattle.cx_lneed.proofs.need.+stmt_needed.Given as goal

abbrev pub invariant-groups_need-loop-g : goal.invariant-groups_need-loop-g
invariant-groups_need-loop-g l = (max l.need (min (spec.groups_need (declared_of l.unit) (group_trees (drop l.g-index l.gs))) 200) ≡ min (spec.groups_need (declared_of l.unit) (group_trees l.gs)) 200) × (l.need ≤ 200)

abbrev pub invariant-stmts_need-loop-s : goal.invariant-stmts_need-loop-s
invariant-stmts_need-loop-s l = (max l.need (min (spec.stmts_need (declared_of l.unit) (stmt_trees (drop l.s-index l.ss))) 200) ≡ min (spec.stmts_need (declared_of l.unit) (stmt_trees l.ss)) 200) × (l.need ≤ 200)
