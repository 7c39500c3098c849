use Rattle.cx_term.proofs.Exact.{exactly-put}
use Rattle.cx_term.proofs.term.Term.put.Goals as goal

pub returns-clause-exact : goal.returns-clause-exact
returns-clause-exact c = rw c.put_by.ensures (exactly-put c.args.s c.args.by.now c.args.self.now c.known.ensures.ordered)
