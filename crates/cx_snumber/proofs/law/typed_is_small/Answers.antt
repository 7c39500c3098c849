use Rattle.cx_snumber.proofs.Typing.{typed_is_small}
use Rattle.cx_snumber.proofs.law.typed_is_small.Goals as goal

pub returns : goal.returns
returns c = record { small = typed_is_small }
