use Rattle.cx_lwhole.proofs.Whole.{code_is_whole}
use Rattle.cx_lwhole.proofs.law.code_is_whole.Goals as goal

pub returns : goal.returns
returns c = record { whole = code_is_whole }
