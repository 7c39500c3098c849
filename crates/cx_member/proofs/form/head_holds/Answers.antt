use Rattle.std.proofs.Common.{◌≡◌, true, false}
use Rattle.cx_member.proofs.Forms.{head_is, head_none}
use Rattle.cx_member.proofs.form.head_holds.Goals as goal

pub returns-in-Some : goal.returns-in-Some
returns-in-Some c =
    let b = rw c.as_slice-head.ensures at c.in-Some.ensures in
    let p = head_is c.args.memory.now c.args.index c.args.args.now c.args.form.now c.in-Some.values.items b in
    let q = rw c.as_slice.ensures.value at c.head_with.ensures in
    ((λ h. p.0 (q.0 h)), (λ h. q.1 (p.1 h)))

pub returns-in-None : goal.returns-in-None
returns-in-None c =
    let b = rw c.as_slice-head.ensures at c.in-None.ensures in
    ((λ h. absurd (let e : false ≡ true = h in cc)), (λ h. absurd (head_none c.args.memory.now c.args.index c.args.args.now c.args.form.now b h)))
