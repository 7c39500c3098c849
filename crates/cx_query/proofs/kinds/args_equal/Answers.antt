use Rattle.cx_query.specs.Kinds.{values_given}
use Rattle.cx_query.proofs.KindLaws.{args-differ}
use Rattle.cx_query.proofs.kinds.args_equal.Goals as goal

pub returns-then-a-b : goal.returns-then-a-b
returns-then-a-b c = args-differ c.args.env.now (values_given c.args.given c.args.values.now) c.args.a.now c.args.b.now c.if-a-b.true
