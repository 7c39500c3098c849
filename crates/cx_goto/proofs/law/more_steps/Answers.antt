use Rattle.cx_goto.proofs.Steps.{more_steps}
use Rattle.cx_goto.proofs.law.more_steps.Goals as goal

pub returns : goal.returns
returns c = record { same = more_steps }
