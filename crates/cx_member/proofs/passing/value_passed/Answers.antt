use Rattle.std.proofs.Common.{sym, rules}
use Rattle.std.specs.Int.{w128}
use Rattle.std.proofs.lemmas.Int.{to_z-of_z}
use Rattle.cx_cells.specs.Layouts.{layout_of}
use Rattle.cx_member.proofs.Telling.{passed-only, passed-none}
use Rattle.cx_member.proofs.passing.value_passed.Goals as goal
use mir.Val.{SFits}

pub returns-in-Some-number_in-clause-only : goal.returns-in-Some-number_in-clause-only
returns-in-Some-number_in-clause-only c =
    let f : SFits w128 c.in-Some-number_in.z = search rules in
    passed-only (layout_of c.args.memory.now) c.args.kinds.now c.args.given.now c.args.s c.args.i c.args.told c.in-Some.kind.now c.in-Some-number_in.z c.told_value.result c.requires (sym c.in-Some.ensures) (sym c.in-Some-number_in.ensures) (simp to_z-of_z at c.told_value.ensures.only)

pub returns-in-None-number_in-clause-only : goal.returns-in-None-number_in-clause-only
returns-in-None-number_in-clause-only c =
    passed-none (layout_of c.args.memory.now) c.args.kinds.now c.args.given.now c.args.s c.args.i c.in-Some.kind.now (sym c.in-Some.ensures) (sym c.in-None-number_in.ensures)
