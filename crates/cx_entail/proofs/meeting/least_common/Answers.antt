use Rattle.std.proofs.Common.{rules}
use Rattle.std.specs.Int.{w128}
use Rattle.std.proofs.lemmas.Int.{to_z-of_z}
use Rattle.cx_entail.specs.Ranges.{Span}
use Rattle.cx_entail.proofs.MeetLaws.{met_answer, none_answer}
use Rattle.cx_entail.proofs.meeting.least_common.Goals as goal
use mir.Val.{SFits}

pub returns-in-None : goal.returns-in-None
returns-in-None c =
    let fal : SFits w128 c.a.inside.lo = search rules in
    let fbl : SFits w128 c.b.inside.lo = search rules in
    let fl : SFits w128 c.greater-lo.result = search rules in
    let fx : SFits w128 c.from-x.result = search rules in
    let fy : SFits w128 c.from-y.result = search rules in
    let fm : SFits w128 c.minus.result = search rules in
    let l = simp to_z-of_z at c.greater-lo.ensures.value in
    let x = simp to_z-of_z at c.from-x.ensures.value in
    let y = simp to_z-of_z at c.from-y.ensures.value in
    let x' = rw (l, ← c.a.view_is) at x in
    let y' = rw (l, ← c.b.view_is) at y in
    let m = simp to_z-of_z at c.minus.ensures in
    let m' = rw (y', x') at m in
    let n = simp to_z-of_z at c.in-None.ensures in
    let n' = rw m' at n in
    let A : Span = record { lo = c.a.inside.lo; hi = c.a.inside.hi; m = c.a.inside.m; r = c.a.inside.r } in
    let B : Span = record { lo = c.b.inside.lo; hi = c.b.inside.hi; m = c.b.inside.m; r = c.b.inside.r } in
    rw (← c.a.view_is, ← c.b.view_is) (none_answer A B c.steps-g.result.0 c.steps-g.result.1 c.a.invariant.positive c.b.invariant.positive c.steps-g.ensures.inverse n')

pub returns-in-Some : goal.returns-in-Some
returns-in-Some c =
    let fal : SFits w128 c.a.inside.lo = search rules in
    let fbl : SFits w128 c.b.inside.lo = search rules in
    let fah : SFits w128 c.a.inside.hi = search rules in
    let fbh : SFits w128 c.b.inside.hi = search rules in
    let fl : SFits w128 c.greater-lo.result = search rules in
    let fh : SFits w128 c.lesser-hi.result = search rules in
    let fx : SFits w128 c.from-x.result = search rules in
    let fy : SFits w128 c.from-y.result = search rules in
    let fm : SFits w128 c.minus.result = search rules in
    let l = simp to_z-of_z at c.greater-lo.ensures.value in
    let h = simp to_z-of_z at c.lesser-hi.ensures.value in
    let x = simp to_z-of_z at c.from-x.ensures.value in
    let y = simp to_z-of_z at c.from-y.ensures.value in
    let x' = rw (l, ← c.a.view_is) at x in
    let y' = rw (l, ← c.b.view_is) at y in
    let m = simp to_z-of_z at c.minus.ensures in
    let m' = rw (y', x') at m in
    let u = simp to_z-of_z at c.in-Some.ensures in
    let u' = rw m' at u in
    let s = simp to_z-of_z at c.stepped_to.ensures in
    let s' = rw (x', h) at s in
    let A : Span = record { lo = c.a.inside.lo; hi = c.a.inside.hi; m = c.a.inside.m; r = c.a.inside.r } in
    let B : Span = record { lo = c.b.inside.lo; hi = c.b.inside.hi; m = c.b.inside.m; r = c.b.inside.r } in
    rw (← c.a.view_is, ← c.b.view_is) (met_answer A B c.steps-g.result.0 c.steps-g.result.1 c.steps-g.result.2 c.in-Some.t c.stepped_to.result c.a.invariant.positive c.b.invariant.positive c.steps-g.ensures.positive c.steps-g.ensures.inverse c.steps-g.ensures.whole u' s')
