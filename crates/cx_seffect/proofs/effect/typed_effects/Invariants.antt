use Rattle.std.proofs.Common.{◌≡◌, length, map}
use Rattle.cx_ctree.specs.Exprs.{effect_tree}
use Rattle.cx_scope.specs.Views.{locals_of}
use Rattle.cx_sfile.specs.Views.{declared_in}
use Rattle.cx_snode.specs.Judging.{judged_all}
use Rattle.cx_snode.proofs.Judged.{behind}
use Rattle.cx_seffect.specs.Effects.{typed_effect}
use Rattle.cx_seffect.proofs.effect.typed_effects.Given as goal

abbrev pub invariant-loop-rest : goal.invariant-loop-rest
invariant-loop-rest l =
    behind (map effect_tree l.done) (judged_all (typed_effect (declared_in l.file) (locals_of l.locals)) (map effect_tree l.rest))
    ≡ judged_all (typed_effect (declared_in l.file) (locals_of l.locals)) (map effect_tree l.effects)

abbrev pub decreases-loop-rest : goal.decreases-loop-rest
decreases-loop-rest l = length l.rest
