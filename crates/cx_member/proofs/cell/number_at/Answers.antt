use Rattle.std.proofs.Common.{rules, ◌≡◌, to_z, of_z}
use Rattle.std.specs.Int.{w128}
use Rattle.std.proofs.lemmas.Int.{to_z-of_z}
use Rattle.cx_cells.specs.Meaning.{number_at}
use Rattle.cx_member.specs.Reading.{bytes_at}
use Rattle.cx_member.proofs.Numbers.{number_small}
use Rattle.cx_member.proofs.cell.number_at.Goals as goal
use mir.Val.{SFits}

pub returns-clause-small : goal.returns-clause-small
returns-clause-small c =
    let bytes = bytes_at c.args.memory.now c.args.index in
    let f : SFits w128 c.number_by.result = search rules in
    let e : to_z w128 (of_z w128 c.number_by.result) ≡ number_at bytes c.args.off c.args.size c.args.signed = simp to_z-of_z c.number_by.ensures in
    rw e (number_small bytes c.args.off c.args.size c.args.signed c.requires.size)
