use Rattle.std.specs.Int.{w128}
use Rattle.std.proofs.lemmas.Int.{to_z-of_z}
use Rattle.cx_term.proofs.Exact.{exactly-plus_times}
use Rattle.cx_term.proofs.term.Term.plus_times.Goals as goal
use mir.Val.{SFits}

pub returns-clause-exact : goal.returns-clause-exact
returns-clause-exact c =
    let fk : SFits w128 c.args.k = c.ranges.k in
    let e = simp to_z-of_z at c.sum.ensures in
    rw e (exactly-plus_times c.args.k c.args.o.now c.args.self.now c.known.ensures.ordered)
