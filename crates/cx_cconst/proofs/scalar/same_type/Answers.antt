use Rattle.cx_cconst.proofs.Types.{same_types}
use Rattle.cx_cconst.proofs.scalar.same_type.Goals as goal

pub returns : goal.returns
returns c = same_types _ _ _ c.same.ensures
