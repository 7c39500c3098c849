use Rattle.std.proofs.Common.{refl, false}
use Rattle.std.specs.Int.{w128}
use Rattle.std.proofs.lemmas.Int.{to_z-of_z}
use Rattle.cx_member.proofs.Numbers.{in_range-small}
use Rattle.cx_member.proofs.passing.pointed_by.Goals as goal
use mir.Val.{SFits}

pub pointed_argument-requires : goal.pointed_argument-requires
pointed_argument-requires c =
    let f : SFits w128 c.args.z = c.ranges.z in
    simp to_z-of_z (in_range-small 8 false c.args.z refl (simp to_z-of_z at (c.if-is_word.ensures.0 refl)))
