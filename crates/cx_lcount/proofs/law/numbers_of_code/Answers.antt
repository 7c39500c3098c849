use Rattle.cx_lcount.proofs.Numbers.{blocks_are_counted, locals_are}
use Rattle.cx_lcount.proofs.law.numbers_of_code.Goals as goal

pub returns-clause-blocks : goal.returns-clause-blocks
returns-clause-blocks c = blocks_are_counted

pub returns-clause-locals : goal.returns-clause-locals
returns-clause-locals c = locals_are
