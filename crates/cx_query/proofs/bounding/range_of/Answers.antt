use Rattle.cx_query.proofs.RangeLaws.{ranges}
use Rattle.cx_query.proofs.bounding.range_of.Goals as goal

pub returns-clause-sound : goal.returns-clause-sound
returns-clause-sound c = rw c.range_by.ensures (ranges c.args.env.now c.args.t.now)
