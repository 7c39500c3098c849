use Rattle.std.proofs.Common.{rules, unsigned_abs, ◌≤◌, ◌^◌}
use Rattle.std.specs.Int.{w128}
use Rattle.std.proofs.lemmas.Int.{to_z-of_z}
use Rattle.cx_learn.proofs.Ends.{low-small}
use Rattle.cx_learn.proofs.bounds.low_of.Goals as goal
use mir.Val.{SFits}

pub returns-clause-small : goal.returns-clause-small
returns-clause-small c =
    let f : SFits w128 c.low.result = search rules in
    let g : unsigned_abs c.low.result ≤ 2 ^ 65 = rw c.low.ensures.value (low-small c.args.r c.known.ensures) in
    simp to_z-of_z g
