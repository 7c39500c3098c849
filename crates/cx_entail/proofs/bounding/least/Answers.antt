use Rattle.cx_term.proofs.Limits.{term-up_to}
use Rattle.cx_entail.proofs.bounding.least.Goals as goal

pub least_parts-requires-clause-up_to : goal.least_parts-requires-clause-up_to
least_parts-requires-clause-up_to c = rw c.parts.ensures (term-up_to c.args.t.now c.known.ensures)
