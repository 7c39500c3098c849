use Rattle.cx_term.proofs.Limits.{term-up_to}
use Rattle.cx_entail.proofs.bounding.modulus.Goals as goal

pub modulus_parts-requires : goal.modulus_parts-requires
modulus_parts-requires c = rw c.parts.ensures (term-up_to c.args.t.now c.known.ensures)
