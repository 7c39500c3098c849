use Rattle.cx_learn.specs.Learning.{learnt}
use Rattle.cx_learn.proofs.Learns.{agrees-ok, learnt-keeps}
use Rattle.cx_learn.proofs.Valids.{learnt-valid}
use Rattle.cx_learn.proofs.learning.learn.Goals as goal

pub returns-clause-sound : goal.returns-clause-sound
returns-clause-sound c = agrees-ok c.learn_by.result (learnt c.args.env c.args.c.now) _ c.learn_by.ensures (λ next e. learnt-keeps c.args.env c.args.c.now next e)

pub returns-clause-valid : goal.returns-clause-valid
returns-clause-valid c = agrees-ok c.learn_by.result (learnt c.args.env c.args.c.now) _ c.learn_by.ensures (λ next e. learnt-valid c.args.env c.args.c.now next e)
