use Rattle.std.specs.Prelude.{[], ◌∷◌, ◌++◌}
use Rattle.std.proofs.Common.{ap, ◌∙◌}
use Rattle.cx_term.specs.Forms.{Linear}
use Rattle.cx_head.proofs.Zeros.{one_more}
use Rattle.cx_head.proofs.heads.element_terms.Goals as goal

pub loop-i-preserved : goal.loop-i-preserved
loop-i-preserved c = c.in_ok-push.ensures.ok ∙ ap (λ (t : Linear). c.loop-i.terms ++ t ∷ []) c.zero.ensures ∙ one_more c.args.f.now.args c.loop-i.terms c.loop-i._i c.loop-i.invariant
