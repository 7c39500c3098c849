use Rattle.std.proofs.Common.{rules}
use Rattle.std.specs.Int.{w128, w64}
use Rattle.std.proofs.lemmas.Int.{to_z-of_z}
use Rattle.cx_term.proofs.AllReplaced.{halves_product}
use Rattle.cx_term.proofs.replace.halves_times.Goals as goal
use mir.Val.{SFits}

pub returns-clause-value : goal.returns-clause-value
returns-clause-value c =
    let fc : SFits w64 c.args.c = c.ranges.c in
    let fz : SFits w128 c.args.z = c.ranges.z in
    let fl : SFits w128 c.halves-low.result.0 = search rules in
    let fh : SFits w128 c.halves-low.result.1 = search rules in
    let fp : SFits w128 c.product.result = search rules in
    let fq : SFits w128 c.product-2.result = search rules in
    let v = simp to_z-of_z at c.halves-low.ensures.value in
    let a = simp to_z-of_z at c.product.ensures.value in
    let b = simp to_z-of_z at c.product-2.ensures.value in
    simp to_z-of_z (halves_product c.args.c c.args.z c.halves-low.result.0 c.halves-low.result.1 c.product.result c.product-2.result v a b)
