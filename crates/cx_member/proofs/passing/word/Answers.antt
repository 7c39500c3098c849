use Rattle.std.proofs.Common.{refl}
use Rattle.std.specs.Int.{w128}
use Rattle.std.proofs.lemmas.Int.{to_z-of_z}
use Rattle.cx_member.proofs.Numbers.{in_range-small}
use Rattle.cx_member.proofs.passing.word.Goals as goal
use mir.Val.{SFits}

pub returns-then-is_word-clause-small : goal.returns-then-is_word-clause-small
returns-then-is_word-clause-small c =
    let f : SFits w128 c.args.z = c.ranges.z in
    simp to_z-of_z (in_range-small 8 c.args.signed c.args.z refl (simp to_z-of_z at (c.if-is_word.ensures.0 refl)))
