use Rattle.cx_ctree.specs.Exprs.{effect_tree}
use Rattle.cx_scope.specs.Views.{locals_of}
use Rattle.cx_sfile.specs.Views.{declared_in}
use Rattle.cx_seffect.specs.Effects.{typed_effect}
use Rattle.cx_seffect.proofs.Lists.{turn}
use Rattle.cx_seffect.proofs.effect.typed_effects.Goals as goal

pub loop-rest-preserved : goal.loop-rest-preserved
loop-rest-preserved c =
    turn effect_tree (typed_effect (declared_in c.args.file.now) (locals_of c.args.locals.now)) c.loop-rest.done c.push.new.self c.loop-rest.rest.now c.args.effects.now c.e-item.result c.in_ok-typed_effect.field-0
    c.in-len1-up.len_at_least c.e-item.is c.in_ok-typed_effect.ensures c.in_ok-push.ensures.ok c.loop-rest.invariant
