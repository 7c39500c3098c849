use Rattle.std.proofs.Common.{◌≡◌, true, false}
use Rattle.std.specs.Int.{w128}
use Rattle.std.proofs.lemmas.Int.{to_z-of_z}
use Rattle.cx_cells.specs.Layouts.{layout_of}
use Rattle.cx_member.proofs.MetArgs.{value_is, value_none}
use Rattle.cx_member.proofs.answering.value_meets.Goals as goal
use mir.Val.{SFits}

pub returns-in-Some : goal.returns-in-Some
returns-in-Some c =
    let f : SFits w128 c.args.z = c.ranges.z in
    let b = simp to_z-of_z at c.in-Some.ensures in
    let p = value_is c.args.r.now c.args.known.now (layout_of c.args.memory.now) c.args.z c.in-Some.values.items b in
    let q = simp to_z-of_z at (rw c.as_slice.ensures.value at c.result_meets_with.ensures) in
    ((λ h. p.0 (q.0 h)), (λ h. q.1 (p.1 h)))

pub returns-in-None : goal.returns-in-None
returns-in-None c =
    let f : SFits w128 c.args.z = c.ranges.z in
    let b = simp to_z-of_z at c.in-None.ensures in
    ((λ h. absurd (let e : false ≡ true = h in cc)), (λ h. absurd (value_none c.args.r.now c.args.known.now (layout_of c.args.memory.now) c.args.z b h)))
