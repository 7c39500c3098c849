use Rattle.cx_close.proofs.Closed.{few_values}
use Rattle.cx_close.proofs.closing.head_shown.Goals as goal

pub head_with-requires : goal.head_with-requires
head_with-requires c =
    record { few = few_values c.args.env.now c.args.form.now c.args.own c.args.s c.args.f.now c.number-start.result c.as_slice-head.result.now c.as_slice.result.now c.in-Some.values.items c.as_slice-in-Some.result.now c.as_slice.ensures c.in-Some.ensures c.as_slice-in-Some.ensures.value c.requires.few c.requires.branches }
