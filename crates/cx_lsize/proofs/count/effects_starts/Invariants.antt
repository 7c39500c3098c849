use Rattle.std.proofs.Common.{◌≡◌, ◌+◌, ◌≤◌, map, min, option_map, drop}
use Rattle.cx_ctree.specs.Exprs.{effect_tree}
use Rattle.cx_lcode.specs.Starts as spec
use Rattle.cx_lsize.proofs.count.effects_starts.Given as goal

abbrev pub invariant-loop-e : goal.invariant-loop-e
invariant-loop-e l = (min (l.n + spec.effects_starts (map effect_tree (drop l.e-index l.es))) 600 ≡ min (spec.effects_starts (map effect_tree l.es)) 600) × (l.n ≤ 600)
