use Rattle.std.proofs.Common.{◌≡◌, ◌+◌, ◌≤◌, map, length, min, max}
use Rattle.cx_ctree.specs.Decls.{param_tree}
use Rattle.cx_ctree.specs.Exprs.{expr_tree}
use Rattle.cx_lcode.specs.Needs as spec
use Rattle.cx_sname.specs.File.{declared_of}
use Rattle.cx_lneed.proofs.need.arguments_need.Given as goal

abbrev pub invariant-loop-rest : goal.invariant-loop-rest
invariant-loop-rest l = record {
  whole : min (max l.need (spec.arguments_need (declared_of l.unit) (map expr_tree l.rest) (map (λ p. p.ctype) (map param_tree l.others)) + l.t)) 200 ≡ min (spec.arguments_need (declared_of l.unit) (map expr_tree l.fn.args) (map (λ p. p.ctype) (map param_tree l.fn.params))) 200;
  need : l.need ≤ 200;
  t : l.t ≤ 200;
}

abbrev pub decreases-loop-rest : goal.decreases-loop-rest
decreases-loop-rest l = length l.rest
