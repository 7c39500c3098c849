use Rattle.std.proofs.Common.{◌∙◌, ap, slice_get}
use Rattle.std.specs.Int.{w128}
use Rattle.std.proofs.lemmas.Int.{to_z-of_z}
use Rattle.cx_member.proofs.binding.argument_at.Goals as goal
use mir.Val.{SFits}

pub returns-in-Some-clause-value : goal.returns-in-Some-clause-value
returns-in-Some-clause-value c = λ args h.
    let f : SFits w128 c.args.base = c.ranges.base in
    let g = simp to_z-of_z at (c.in-Some.ensures.found args) in
    c.item_at.ensures.value ∙ ap (λ xs. slice_get xs c.args.i) (c.as_slice.ensures ∙ g.0 h)

pub returns-in-None-clause-value : goal.returns-in-None-clause-value
returns-in-None-clause-value c = λ args h.
    let f : SFits w128 c.args.base = c.ranges.base in
    let g = simp to_z-of_z at (c.in-None.ensures.found args) in
    absurd (g.0 h)
