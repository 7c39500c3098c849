use Rattle.std.proofs.Common.{sym}
use Rattle.cx_leffect.proofs.Given.{nothing_given}
use Rattle.cx_leffect.proofs.effect.emit_given.Goals as goal

pub returns-in-None : goal.returns-in-None
returns-in-None c = nothing_given _ _ _ _ _ _ _ (sym c.in-None.ensures)
