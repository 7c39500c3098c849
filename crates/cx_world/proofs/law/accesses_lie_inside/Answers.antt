use Rattle.cx_world.proofs.Accesses.{reads_lie_inside, writes_lie_inside}
use Rattle.cx_world.proofs.law.accesses_lie_inside.Goals as goal

pub returns-clause-reads : goal.returns-clause-reads
returns-clause-reads c = reads_lie_inside

pub returns-clause-writes : goal.returns-clause-writes
returns-clause-writes c = writes_lie_inside
