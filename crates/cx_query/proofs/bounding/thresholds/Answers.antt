use Rattle.std.proofs.Common.{refl}
use Rattle.cx_query.specs.Range.{thresholds}
use Rattle.cx_query.proofs.bounding.thresholds.Goals as goal

pub returns : goal.returns
unfolding thresholds
returns c = refl
