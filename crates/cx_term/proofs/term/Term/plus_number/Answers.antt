use Rattle.std.specs.Int.{w128}
use Rattle.std.proofs.lemmas.Int.{to_z-of_z}
use Rattle.cx_term.proofs.Combined.{exactly-plus_number}
use Rattle.cx_term.proofs.term.Term.plus_number.Goals as goal
use mir.Val.{SFits}

pub returns-clause-exact : goal.returns-clause-exact
returns-clause-exact c =
    let fz : SFits w128 c.args.z = c.ranges.z in
    let e = simp to_z-of_z at c.plus_number_by.ensures in
    rw e (exactly-plus_number c.args.z c.args.self.now c.known.ensures.ordered)
