use Rattle.std.proofs.Common.{◌≡◌, ◌≤◌, map, min, max, drop}
use Rattle.cx_ctree.specs.Exprs.{effect_tree}
use Rattle.cx_lcode.specs.Needs as spec
use Rattle.cx_sname.specs.File.{declared_of}
use Rattle.cx_lneed.proofs.need.effects_need.Given as goal

abbrev pub invariant-loop-e : goal.invariant-loop-e
invariant-loop-e l = (max l.need (min (spec.effects_need (declared_of l.unit) (map effect_tree (drop l.e-index l.es))) 200) ≡ min (spec.effects_need (declared_of l.unit) (map effect_tree l.es)) 200) × (l.need ≤ 200)
