use Rattle.cx_gline.proofs.Whole.{constants_are_small, calls_have_arguments}
use Rattle.cx_gline.proofs.law.lines_of_code.Goals as goal

pub returns-clause-constants : goal.returns-clause-constants
returns-clause-constants c = constants_are_small

pub returns-clause-calls : goal.returns-clause-calls
returns-clause-calls c = calls_have_arguments
