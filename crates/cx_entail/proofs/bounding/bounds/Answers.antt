use Rattle.std.proofs.Common.{rules, ◌≡◌, to_z, of_z}
use Rattle.std.specs.Int.{w128}
use Rattle.std.proofs.lemmas.Int.{to_z-of_z}
use Rattle.cx_entail.specs.Bounds.{least, most}
use Rattle.cx_entail.proofs.BoundLaws.{lies_between}
use Rattle.cx_entail.proofs.bounding.bounds.Goals as goal
use mir.Val.{SFits}

pub returns-clause-sound : goal.returns-clause-sound
returns-clause-sound c =
    let f : SFits w128 c.least.result = search rules in
    let g : SFits w128 c.most.result = search rules in
    let e : to_z w128 (of_z w128 c.least.result) ≡ least c.args.ranges.now c.args.t.now = simp to_z-of_z c.least.ensures in
    let k : to_z w128 (of_z w128 c.most.result) ≡ most c.args.ranges.now c.args.t.now = simp to_z-of_z c.most.ensures in
    rw (e, k) (lies_between c.args.ranges.now c.args.t.now)
