use Rattle.std.proofs.Common.{arith}
use Rattle.cx_tsizes.proofs.Division.{whole_row, broken_row}
use Rattle.cx_tsizes.proofs.values.row_takes.Goals as goal

pub returns-then-bytes-each-eq0 : goal.returns-then-bytes-each-eq0
returns-then-bytes-each-eq0 c = whole_row c.args.turns c.args.each c.args.bytes c.from.result (omega arith) c.if-bytes-each-eq0.true c.from.ensures

pub returns-else-bytes-each-eq0 : goal.returns-else-bytes-each-eq0
returns-else-bytes-each-eq0 c = broken_row c.args.turns c.args.each c.args.bytes c.if-bytes-each-eq0.false
