use Rattle.cx_term.proofs.AllReplaced.{exactly-put_all}
use Rattle.cx_term.proofs.term.Term.put_all.Goals as goal

pub returns-clause-exact : goal.returns-clause-exact
returns-clause-exact c = rw c.put_all_by.ensures (exactly-put_all c.args.forms.now c.args.self.now)
