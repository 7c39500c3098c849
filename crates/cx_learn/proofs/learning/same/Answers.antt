use Rattle.std.specs.Int.{w128}
use Rattle.std.proofs.lemmas.Int.{to_z-of_z}
use Rattle.cx_learn.proofs.Ends.{same-is}
use Rattle.cx_learn.proofs.learning.same.Goals as goal
use mir.Val.{SFits}

pub returns : goal.returns
returns c =
    let f : SFits w128 c.args.a = c.ranges.a in
    let g : SFits w128 c.args.b = c.ranges.b in
    let e = simp to_z-of_z at c.are_same.ensures in
    same-is c.are_same.result c.args.a c.args.b e.0 e.1
