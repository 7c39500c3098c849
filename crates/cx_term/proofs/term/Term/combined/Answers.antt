use Rattle.std.specs.Int.{w128, w64}
use Rattle.std.proofs.lemmas.Int.{to_z-of_z}
use Rattle.cx_term.proofs.Combined.{exactly-combined}
use Rattle.cx_term.proofs.term.Term.combined.Goals as goal
use mir.Val.{SFits}

pub returns-clause-exact : goal.returns-clause-exact
returns-clause-exact c =
    let fk : SFits w64 c.args.k = c.ranges.k in
    let fm : SFits w64 c.args.m = c.ranges.m in
    let fc : SFits w128 c.args.c = c.ranges.c in
    let e = simp to_z-of_z at c.combined_by.ensures in
    rw e (exactly-combined c.args.k c.args.self.now c.args.m c.args.o.now c.args.c)
