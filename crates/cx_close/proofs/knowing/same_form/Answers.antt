use Rattle.cx_entail.proofs.Nonzero.{same_form-is}
use Rattle.cx_close.proofs.knowing.same_form.Goals as goal

pub returns : goal.returns
returns c = same_form-is c.same.result c.args.a.now c.args.b.now c.same.ensures.0 c.same.ensures.1
