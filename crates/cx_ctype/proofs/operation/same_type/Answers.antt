use Rattle.cx_cname.proofs.Same.{same_is}
use Rattle.cx_ctype.proofs.operation.same_type.Goals as goal

pub returns : goal.returns
returns c = same_is _ _ _ c.same.ensures
