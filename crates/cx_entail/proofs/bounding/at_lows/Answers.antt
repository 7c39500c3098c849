use Rattle.cx_term.proofs.Limits.{term-up_to}
use Rattle.cx_entail.proofs.bounding.at_lows.Goals as goal

pub lows_parts-requires-clause-up_to : goal.lows_parts-requires-clause-up_to
lows_parts-requires-clause-up_to c = rw c.parts.ensures (term-up_to c.args.t.now c.known.ensures)
