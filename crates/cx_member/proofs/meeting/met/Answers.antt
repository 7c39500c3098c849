use Rattle.std.proofs.Common.{◌≡◌, true, false, refl}
use Rattle.cx_cells.specs.Layouts.{layout_of}
use Rattle.cx_member.proofs.MetArgs.{meet_only, meet_none, meet_none_with}
use Rattle.cx_member.proofs.meeting.met.Goals as goal

pub returns-then-meet_with : goal.returns-then-meet_with
returns-then-meet_with c =
    let b = rw c.as_slice-kinds.ensures at c.in-Some.ensures in
    let h = rw c.as_slice.ensures.value at (c.if-meet_with.ensures.0 refl) in
    meet_only c.args.called.now c.args.args.now (layout_of c.args.memory.now) c.in-Some.values.items b h

pub returns-else-meet_with : goal.returns-else-meet_with
returns-else-meet_with c =
    let b = rw c.as_slice-kinds.ensures at c.in-Some.ensures in
    let g = rw c.as_slice.ensures.value at c.if-meet_with.ensures in
    meet_none_with c.args.called.now c.args.args.now (layout_of c.args.memory.now) c.in-Some.values.items b (λ x. let e : false ≡ true = g.1 x in absurd (cc))

pub returns-in-None : goal.returns-in-None
returns-in-None c =
    let b = rw c.as_slice-kinds.ensures at c.in-None.ensures in
    meet_none c.args.called.now c.args.args.now (layout_of c.args.memory.now) b

pub bound_by_args-requires-clause-told : goal.bound_by_args-requires-clause-told
bound_by_args-requires-clause-told c = rw c.as_slice-kinds.ensures c.requires.reads.told
