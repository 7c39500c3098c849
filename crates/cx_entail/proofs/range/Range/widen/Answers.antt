use Rattle.cx_entail.proofs.WidenLaws.{widen-has}
use Rattle.cx_entail.proofs.range.Range.widen.Goals as goal

pub returns-clause-sound : goal.returns-clause-sound
returns-clause-sound c = rw c.widen_by.ensures (widen-has c.args.self.now c.args.o.now c.args.thresholds.now c.known.ensures)
