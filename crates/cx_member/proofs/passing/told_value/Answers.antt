use Rattle.std.specs.Int.{w128}
use Rattle.std.proofs.lemmas.Int.{to_z-of_z}
use Rattle.cx_cells.specs.Layouts.{layout_of}
use Rattle.cx_member.proofs.Telling.{told-word, told-address}
use Rattle.cx_member.proofs.passing.told_value.Goals as goal
use mir.Val.{SFits}

pub returns-in-Val-clause-only : goal.returns-in-Val-clause-only
returns-in-Val-clause-only c = λ v s h k.
    let f : SFits w128 c.args.z = c.ranges.z in
    let g = simp to_z-of_z at c.word.ensures.value in
    told-word v (layout_of c.args.memory.now) s c.args.kind.now c.args.told c.in-Val.signed c.in-Val.value c.args.z c.word.result c.in-Val.is g h k

pub returns-in-Argument-clause-only : goal.returns-in-Argument-clause-only
returns-in-Argument-clause-only c = λ v s h k.
    let f : SFits w128 c.args.z = c.ranges.z in
    let g = simp to_z-of_z at c.pointed_by.ensures.value in
    told-address v (layout_of c.args.memory.now) s c.args.kind.now c.args.told c.in-Ptr.name c.in-Ptr.args c.in-Ptr.off c.in-Ptr.null c.args.z c.in-Argument.i c.pointed_by.result c.in-Ptr.is c.in-Argument.is g h k
