use Rattle.std.specs.Prelude.{length}
use Rattle.std.proofs.Common.{arith, ap}
use Rattle.cx_open.specs.declared.naming.Opening.{Opening}
use Rattle.cx_head.proofs.Zeros.{length-values}
use Rattle.cx_head.proofs.heads.open_tail.Goals as goal

pub open_part-requires : goal.open_part-requires
open_part-requires c =
    let e = ap (λ (o : Opening). length o.terms) c.in_ok-o.ensures in
    record { few = omega (arith, e, length-values c.args.f.now.args c.args.form.now.binders, c.requires.few, c.requires.element) }
