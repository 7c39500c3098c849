use Rattle.cx_opens.proofs.Law.{opening_is_true, opening_is_well}
use Rattle.cx_focus.proofs.Answered.{gives-ok}
use Rattle.cx_focus.proofs.opening.open.Goals as goal

pub returns-clause-sound : goal.returns-clause-sound
returns-clause-sound c = gives-ok c.opened.result _ _ c.opened.ensures (λ next e. opening_is_true c.args.rules.now.forms c.args.env.now c.args.s _ next c.args.rules.now.kept.each_form c.requires.valid e)

pub returns-clause-well : goal.returns-clause-well
returns-clause-well c = gives-ok c.opened.result _ _ c.opened.ensures (λ next e. opening_is_well c.args.rules.now.forms c.args.env.now c.args.s _ next c.args.rules.now.kept.each_form c.requires.valid e)
