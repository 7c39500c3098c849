use Rattle.std.proofs.Common.{◌≡◌, length, map}
use Rattle.cx_ctree.specs.Exprs.{expr_tree}
use Rattle.cx_scope.specs.Views.{locals_of}
use Rattle.cx_sfile.specs.Views.{declared_in}
use Rattle.cx_snode.specs.Judging.{judged_all}
use Rattle.cx_snode.proofs.Judged.{behind}
use Rattle.cx_sexpr.specs.Typing.{typed}
use Rattle.cx_seffect.proofs.call.typed_all.Given as goal

abbrev pub invariant-loop-rest : goal.invariant-loop-rest
invariant-loop-rest l =
    behind (map expr_tree l.done) (judged_all (typed (declared_in l.file) (locals_of l.locals)) (map expr_tree l.rest))
    ≡ judged_all (typed (declared_in l.file) (locals_of l.locals)) (map expr_tree l.args)

abbrev pub decreases-loop-rest : goal.decreases-loop-rest
decreases-loop-rest l = length l.rest
