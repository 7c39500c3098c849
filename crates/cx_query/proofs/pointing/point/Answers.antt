use Rattle.cx_query.proofs.PointLaws.{points_truly}
use Rattle.cx_query.proofs.pointing.point.Goals as goal

pub returns-clause-sound : goal.returns-clause-sound
returns-clause-sound c = rw c.point_but.ensures (points_truly c.args.env.now c.args.t.now)
