use Rattle.std.proofs.Common.{rules}
use Rattle.std.specs.Int.{w128, w64}
use Rattle.std.proofs.lemmas.Int.{to_z-of_z}
use Rattle.cx_term.proofs.combine.combined_konst.Goals as goal
use mir.Val.{SFits}

pub returns : goal.returns
returns c =
    let fk : SFits w64 c.args.k = c.ranges.k in
    let fm : SFits w64 c.args.m = c.ranges.m in
    let fa : SFits w128 c.args.a = c.ranges.a in
    let fb : SFits w128 c.args.b = c.ranges.b in
    let fc : SFits w128 c.args.c = c.ranges.c in
    let fl : SFits w128 c.combined_halves-low.result.0 = search rules in
    let fh : SFits w128 c.combined_halves-low.result.1 = search rules in
    let e = simp to_z-of_z at c.times_konst.ensures in
    let v = simp to_z-of_z at c.combined_halves-low.ensures.value in
    let g = rw v at e in
    g
