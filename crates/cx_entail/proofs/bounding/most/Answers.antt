use Rattle.cx_term.proofs.Limits.{term-up_to}
use Rattle.cx_entail.proofs.bounding.most.Goals as goal

pub most_parts-requires-clause-up_to : goal.most_parts-requires-clause-up_to
most_parts-requires-clause-up_to c = rw c.parts.ensures (term-up_to c.args.t.now c.known.ensures)
