use Rattle.std.proofs.Common.{◌≡◌, true, false}
use Rattle.std.specs.Int.{w128}
use Rattle.std.proofs.lemmas.Int.{to_z-of_z}
use Rattle.cx_cells.specs.Values.{values_of, all_values}
use Rattle.cx_member.proofs.pointing.has_region.Goals as goal
use mir.Val.{SFits}

pub returns-in-Some : goal.returns-in-Some
returns-in-Some c =
    let f : SFits w128 c.args.base = c.ranges.base in
    let g = simp to_z-of_z at (c.in-Some.ensures.found (all_values (values_of c.args.values.now) c.args.args.now)) in
    let k = rw (c.as_slice-in-Some.ensures, c.as_slice.ensures) at c.are_values.ensures in
    ((λ h. g.1 (k.0 h)), (λ h. k.1 (g.0 h)))

pub returns-in-None : goal.returns-in-None
returns-in-None c =
    let f : SFits w128 c.args.base = c.ranges.base in
    let g = simp to_z-of_z at (c.in-None.ensures.found (all_values (values_of c.args.values.now) c.args.args.now)) in
    ((λ h. absurd (let e : false ≡ true = h in cc)), (λ h. absurd (g.0 h)))
