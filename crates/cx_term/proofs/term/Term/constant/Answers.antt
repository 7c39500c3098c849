use Rattle.std.specs.Int.{w128}
use Rattle.std.proofs.lemmas.Int.{to_z-of_z}
use Rattle.cx_term.proofs.Exact.{exactly-constant}
use Rattle.cx_term.proofs.term.Term.constant.Goals as goal
use mir.Val.{SFits}

pub returns-clause-exact : goal.returns-clause-exact
returns-clause-exact c =
    let f : SFits w128 c.args.v = c.ranges.v in
    let e = simp to_z-of_z at c.constant_by.ensures in
    rw e (exactly-constant c.args.v)
