use Rattle.cx_lright.proofs.Placed as placed
use Rattle.cx_lright.proofs.law.code_is_right.Goals as goal

pub returns : goal.returns
returns c = record { right = placed.code_is_right }
