use Rattle.std.proofs.Common.{◌≡◌, sym, slice_get, Some}
use Rattle.cx_member.proofs.Telling.{told-only}
use Rattle.cx_member.proofs.binding.number_told.Goals as goal

pub returns-in-Some-clause-only : goal.returns-in-Some-clause-only
returns-in-Some-clause-only c =
    let g : slice_get c.args.cells.now c.args.i ≡ Some c.in-Some.c.now = sym c.in-Some.ensures in
    told-only c.args.memory.now c.args.index c.args.off c.args.cells.now c.args.s c.args.i c.args.told c.in-Some.c.now c.told_number.result c.requires.telling g c.told_number.ensures.only
