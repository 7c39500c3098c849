use Rattle.std.proofs.Common.{◌≡◌, true, false}
use Rattle.cx_member.proofs.Forms.{tail_past}
use Rattle.cx_member.proofs.form.some_tail_holds.Goals as goal

pub returns-in-None : goal.returns-in-None
returns-in-None c =
    ((λ h. absurd (let e : false ≡ true = h in cc)), (λ h. absurd (tail_past c.args.memory.now c.args.index c.args.args.now c.args.form.now c.args.tail.now c.args.bytes c.in-None.ensures c.requires.tail.some_size h)))
