use Rattle.std.proofs.Common.{◌≡◌, ◌+◌, false, rules}
use Rattle.std.specs.Int.{w128}
use Rattle.std.proofs.lemmas.Int.{to_z-of_z}
use Rattle.cx_cells.specs.Layouts.{layout_of}
use Rattle.cx_cells.specs.Meaning.{number_at}
use Rattle.cx_cells.specs.Values.{values_of}
use Rattle.cx_member.specs.Reading.{bytes_at}
use Rattle.cx_member.proofs.Telling.{pointer_holds}
use Rattle.cx_member.proofs.cell.cell_holds.Goals as goal
use mir.Val.{SFits}

pub returns-in-Ptr : goal.returns-in-Ptr
returns-in-Ptr c =
    let bytes = bytes_at c.args.memory.now c.args.index in
    let x = c.args.c.now in
    let f : SFits w128 c.number_at-z.result = search rules in
    let g = simp to_z-of_z at c.points.ensures in
    let e : c.number_at-z.result ≡ number_at bytes (c.args.off + x.at) x.size false = cc (c.number_at-z.ensures.value, c.from.ensures) in
    pointer_holds (values_of c.args.values.now) (layout_of c.args.memory.now) bytes (c.args.off + x.at) x.size x.kind c.in-Ptr.name c.in-Ptr.args c.in-Ptr.off c.in-Ptr.null c.number_at-z.result c.points.result c.in-Ptr.is e g
