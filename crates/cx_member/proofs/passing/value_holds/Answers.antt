use Rattle.std.proofs.Common.{refl, false}
use Rattle.std.specs.Int.{w128}
use Rattle.std.proofs.lemmas.Int.{to_z-of_z}
use Rattle.cx_cells.specs.Layouts.{layout_of}
use Rattle.cx_cells.specs.Values.{values_of}
use Rattle.cx_member.proofs.Numbers.{in_range-small}
use Rattle.cx_member.proofs.Telling.{address_holds}
use Rattle.cx_member.proofs.passing.value_holds.Goals as goal
use mir.Val.{SFits}

pub points-requires-clause-number : goal.points-requires-clause-number
points-requires-clause-number c =
    let f : SFits w128 c.args.z = c.ranges.z in
    simp to_z-of_z (in_range-small 8 false c.args.z refl (simp to_z-of_z at (c.if-is_word-2.ensures.0 refl)))

pub returns-then-is_word-2 : goal.returns-then-is_word-2
returns-then-is_word-2 c =
    let f : SFits w128 c.args.z = c.ranges.z in
    let g = simp to_z-of_z at c.points.ensures in
    let h = simp to_z-of_z at (c.if-is_word-2.ensures.0 refl) in
    address_holds (values_of c.args.values.now) (layout_of c.args.memory.now) c.args.kind.now c.in-Ptr.name c.in-Ptr.args c.in-Ptr.off c.in-Ptr.null c.args.z c.points.result c.in-Ptr.is h g
