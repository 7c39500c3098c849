use Rattle.cx_query.proofs.Fresh.{fresh-then, fresh-else}
use Rattle.cx_query.proofs.pointing.is_fresh_but.Goals as goal

pub returns-then-is_fresh : goal.returns-then-is_fresh
returns-then-is_fresh c = fresh-then c.args.own c.args.env.now.fresh c.args.s c.in-Some.o c.is_fresh.result c.in-Some.is c.is_fresh.ensures c.if-is_fresh.true

pub returns-else-is_fresh : goal.returns-else-is_fresh
returns-else-is_fresh c = fresh-else c.args.own c.args.env.now.fresh c.args.s c.in-Some.o c.is_fresh.result c.in-Some.is c.is_fresh.ensures c.if-is_fresh.false
