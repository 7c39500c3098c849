use Rattle.cx_packed.proofs.Firsts.{first-known}
use Rattle.cx_packed.proofs.packed.Packed.known.Goals as goal

pub returns : goal.returns
returns c = cc (first-known c.args.self.now.cells c.args.s c.args.at.now c.args.size, c.first_at.ensures)
