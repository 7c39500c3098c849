use Rattle.std.proofs.Common.{◌≡◌, ◌+◌, ◌++◌, map, drop}
use Rattle.cx_ctree.specs.Exprs.{expr_tree}
use Rattle.cx_lcode.specs.Lines as lines
use Rattle.cx_leffect.proofs.effect.locals_for.Given as goal

abbrev pub invariant-loop-arg : goal.invariant-loop-arg
invariant-loop-arg l = record {
  made : l.locals ++ lines.locals_for (map expr_tree (drop l.arg-index l.args)) l.t ≡ lines.locals_for (map expr_tree l.args) l.first;
  few : l.t ≡ l.first + l.arg-index;
}
