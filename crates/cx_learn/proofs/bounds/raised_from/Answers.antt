use Rattle.std.proofs.Common.{arith, sym}
use Rattle.std.proofs.lemmas.Int.{ints}
use Rattle.cx_learn.proofs.Ends.{raised-past}
use Rattle.cx_learn.proofs.bounds.raised_from.Goals as goal

pub returns-then-q : goal.returns-then-q
returns-then-q c = sym (raised-past _ c.args.r c.known.ensures (omega (arith, ints, c.if-q.true)))
