use Rattle.cx_term.proofs.Limits.{term-up_to}
use Rattle.cx_member.proofs.valued.value_of.Goals as goal

pub parts_value-requires-clause-up_to : goal.parts_value-requires-clause-up_to
parts_value-requires-clause-up_to c = rw c.parts.ensures (term-up_to c.args.t.now c.known.ensures)
