use Rattle.std.proofs.Common.{rules}
use Rattle.std.specs.Int.{w128}
use Rattle.std.proofs.lemmas.Int.{to_z-of_z}
use Rattle.cx_term.proofs.AllReplaced.{replaced_is_term}
use Rattle.cx_term.proofs.term.Term.put_all_by.Goals as goal
use mir.Val.{SFits}

pub invariant_of-result : goal.invariant_of-result
invariant_of-result c =
    let fr : SFits w128 c.in_ok-konst.konst = search rules in
    let fa : SFits w128 c.self.inside.konst = search rules in
    let e = simp to_z-of_z at c.in_ok-konst.ensures in
    let e' = rw c.as_slice.ensures.value at e in
    let f = rw c.as_slice-2.ensures.value at c.in_ok-parts.ensures in
    simp to_z-of_z (replaced_is_term c.args.forms.now c.self.inside.konst c.in_ok-konst.konst c.self.inside.parts.items c.in_ok-parts.parts.items e' f)
