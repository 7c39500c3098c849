use Rattle.std.proofs.Common.{◌≡◌, ◌+◌, ◌∙◌, false, rules}
use Rattle.std.specs.Int.{w128}
use Rattle.std.proofs.lemmas.Int.{to_z-of_z}
use Rattle.cx_cells.specs.Layouts.{layout_of}
use Rattle.cx_cells.specs.Meaning.{number_at}
use Rattle.cx_member.specs.Reading.{bytes_at}
use Rattle.cx_member.proofs.Telling.{value-tells, pointer-tells}
use Rattle.cx_member.proofs.binding.told_number.Goals as goal
use mir.Val.{SFits}

pub returns-in-Val-clause-only : goal.returns-in-Val-clause-only
returns-in-Val-clause-only c = λ v s h k.
    let bytes = bytes_at c.args.memory.now c.args.index in
    let x = c.args.c.now in
    let f : SFits w128 c.number_at.result = search rules in
    let e = to_z-of_z w128 c.number_at.result f in
    let t = value-tells v (layout_of c.args.memory.now) bytes (c.args.off + x.at) x.size s x.kind c.args.told c.in-Val.signed c.in-Val.value c.in-Val.is h k in
    cc (c.number_at.ensures.value, c.from.ensures)

pub returns-in-Argument-clause-only : goal.returns-in-Argument-clause-only
returns-in-Argument-clause-only c = λ v s h k.
    let bytes = bytes_at c.args.memory.now c.args.index in
    let x = c.args.c.now in
    let f : SFits w128 c.number_at-z.result = search rules in
    let e : c.number_at-z.result ≡ number_at bytes (c.args.off + x.at) x.size false = cc (c.number_at-z.ensures.value, c.from.ensures) in
    let t = pointer-tells v (layout_of c.args.memory.now) bytes (c.args.off + x.at) x.size s x.kind c.args.told c.in-Ptr.name c.in-Ptr.args c.in-Ptr.off c.in-Ptr.null c.in-Ptr.is h k in
    let g = simp to_z-of_z at (c.pointed_argument.ensures.value t.args) in
    let i : t.i ≡ c.in-Argument.i = cc (t.is, c.in-Argument.is) in
    (rw e at g) t.region ∙ (rw i at t.value)
