use Rattle.std.proofs.Common.{◌≡◌, true, false}
use Rattle.cx_member.proofs.Bindings.{part_is, part_none}
use Rattle.cx_member.proofs.part.part_holds.Goals as goal

pub returns-in-Some : goal.returns-in-Some
returns-in-Some c =
    let b = rw c.as_slice-cells.ensures at c.in-Some.ensures in
    let p = part_is c.args.memory.now c.args.index c.args.off c.args.known.now c.args.part.now c.in-Some.values.items b in
    let q = rw c.as_slice.ensures.value at c.part_with.ensures in
    ((λ h. p.0 (q.0 h)), (λ h. q.1 (p.1 h)))

pub returns-in-None : goal.returns-in-None
returns-in-None c =
    let b = rw c.as_slice-cells.ensures at c.in-None.ensures in
    ((λ h. absurd (let e : false ≡ true = h in cc)), (λ h. absurd (part_none c.args.memory.now c.args.index c.args.off c.args.known.now c.args.part.now b h)))
