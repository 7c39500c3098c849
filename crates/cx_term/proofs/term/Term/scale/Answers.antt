use Rattle.std.proofs.Common.{arith, ap}
use Rattle.std.specs.Int.{w128}
use Rattle.std.proofs.lemmas.Int.{ints, to_z-of_z}
use Rattle.cx_term.specs.Forms.{value}
use Rattle.cx_term.proofs.Exact.{exactly-same}
use Rattle.cx_term.proofs.term.Term.scale.Goals as goal
use mir.Val.{SFits}

pub returns-clause-exact : goal.returns-clause-exact
returns-clause-exact c =
    let fk : SFits w128 c.args.k = c.ranges.k in
    let e = simp to_z-of_z at c.plus_times.ensures.exact in
    exactly-same _ _ c.plus_times.result (λ v. omega (arith, ints, ap (λ t. value v t) c.zero.ensures)) e
