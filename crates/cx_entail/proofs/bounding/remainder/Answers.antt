use Rattle.std.proofs.Common.{rules, ◌≡◌, to_z, of_z}
use Rattle.std.specs.Int.{w128}
use Rattle.std.proofs.lemmas.Int.{to_z-of_z}
use Rattle.cx_entail.specs.Bounds.{at_lows}
use Rattle.cx_entail.proofs.BoundLaws.{leaves_remainder}
use Rattle.cx_entail.proofs.bounding.remainder.Goals as goal
use mir.Val.{SFits}

pub returns-clause-sound : goal.returns-clause-sound
returns-clause-sound c =
    let f : SFits w128 c.at_lows.result = search rules in
    let e : to_z w128 (of_z w128 c.at_lows.result) ≡ at_lows c.args.ranges.now c.args.t.now = simp to_z-of_z c.at_lows.ensures in
    rw (e, c.modulus.ensures.value) (leaves_remainder c.args.ranges.now c.args.t.now)
