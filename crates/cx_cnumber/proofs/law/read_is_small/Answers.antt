use Rattle.cx_cnumber.proofs.Reading.{read_is_small}
use Rattle.cx_cnumber.proofs.law.read_is_small.Goals as goal

pub returns : goal.returns
returns c = record { small = read_is_small }
