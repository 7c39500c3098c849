use Rattle.std.proofs.Common.{sym, ◌∙◌}
use Rattle.cx_close.proofs.Closed.{closes-truly}
use Rattle.cx_close.proofs.closing.close.Goals as goal

pub returns-clause-sound : goal.returns-clause-sound
returns-clause-sound c = λ t. closes-truly c.args.rules.now.forms c.args.env.now c.args.s c.args.rules.now.kept.each_form c.requires.valid (sym c.closes.ensures ∙ t)
