use Rattle.cx_entail.specs.Ranges.{Span}
use Rattle.cx_entail.proofs.MeetEnds.{step_is}
use Rattle.cx_entail.proofs.meeting.step_of.Goals as goal

pub returns : goal.returns
returns c =
    let A : Span = record { lo = c.a.inside.lo; hi = c.a.inside.hi; m = c.a.inside.m; r = c.a.inside.r } in
    let B : Span = record { lo = c.b.inside.lo; hi = c.b.inside.hi; m = c.b.inside.m; r = c.b.inside.r } in
    let e = c.steps-g.ensures in
    rw (← c.a.view_is, ← c.b.view_is) (step_is A B c.steps-g.result.0 c.steps-g.result.1 c.steps-g.result.2 c.from.result c.from-2.result c.a.invariant.positive e.positive e.k_positive e.inverse e.whole c.from.ensures c.from-2.ensures)
