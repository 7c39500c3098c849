use Rattle.std.proofs.Common.{sym, ◌∙◌}
use Rattle.cx_apart.proofs.Truths.{apart-true}
use Rattle.cx_apart.proofs.showing.apart.Goals as goal

pub returns-clause-sound : goal.returns-clause-sound
returns-clause-sound c = λ e. apart-true c.args.env.now c.args.a.now c.args.b.now (sym c.are_apart.ensures ∙ e)
