use Rattle.std.proofs.Common.{◌≡◌, map, option_map, drop}
use Rattle.cx_ctree.specs.Exprs.{expr_tree}
use Rattle.cx_lcode.specs.Needs as spec
use Rattle.cx_lneed.proofs.need.labels_need.Given as goal

abbrev pub invariant-loop-label : goal.invariant-loop-label
invariant-loop-label l = spec.labels_need (map (option_map expr_tree) (drop l.label-index l.labels)) ≡ spec.labels_need (map (option_map expr_tree) l.labels)
