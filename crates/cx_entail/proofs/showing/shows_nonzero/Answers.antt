use Rattle.std.proofs.Common.{◌∙◌, sym}
use Rattle.cx_entail.proofs.Nonzero.{nonzero_sound}
use Rattle.cx_entail.proofs.showing.shows_nonzero.Goals as goal

pub returns-clause-sound : goal.returns-clause-sound
returns-clause-sound c = λ e v h k. nonzero_sound c.args.known.now c.args.ranges.now v h k c.args.t.now (sym c.nonzero_by.ensures ∙ e)
