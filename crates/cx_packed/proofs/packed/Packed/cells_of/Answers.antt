use Rattle.cx_packed.proofs.packed.Packed.cells_of.Goals as goal

pub returns : goal.returns
returns c = cc (c.self.invariant.indexed.runs c.args.s, c.run_of.ensures)
