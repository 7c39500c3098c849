use Rattle.std.proofs.Common.{rules}
use Rattle.std.specs.Int.{w128}
use Rattle.std.proofs.lemmas.Int.{to_z-of_z}
use Rattle.cx_entail.proofs.MeetEnds.{met_is}
use Rattle.cx_entail.proofs.meeting.met.Goals as goal
use mir.Val.{SFits}

pub returns : goal.returns
returns c =
    let fv : SFits w128 c.args.v = c.ranges.v in
    let ft : SFits w128 c.top_of.result = search rules in
    let fl : SFits w128 c.last_step-hi.result = search rules in
    let t = simp to_z-of_z at c.last_step-hi.ensures.value in
    let t' = rw c.top_of.ensures.value at t in
    let m = simp to_z-of_z at c.met_range.ensures in
    let m' = rw t' at m in
    rw m' (met_is c.args.a.now c.args.b.now c.step_of-n.result c.args.v c.step_of-n.ensures c.requires)
