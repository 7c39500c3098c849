use Rattle.std.proofs.Common.{rules}
use Rattle.std.specs.Int.{w128, w64}
use Rattle.std.proofs.lemmas.Int.{to_z-of_z}
use Rattle.cx_term.proofs.Combined.{combined_is_term}
use Rattle.cx_term.proofs.term.Term.combined_by.Goals as goal
use mir.Val.{SFits}

pub invariant_of-result : goal.invariant_of-result
invariant_of-result c =
    let fr : SFits w128 c.in_ok-konst.konst = search rules in
    let fa : SFits w128 c.self.inside.konst = search rules in
    let fb : SFits w128 c.o.inside.konst = search rules in
    let fk : SFits w64 c.args.k = c.ranges.k in
    let fm : SFits w64 c.args.m = c.ranges.m in
    let fc : SFits w128 c.args.c = c.ranges.c in
    let e = simp to_z-of_z at c.in_ok-konst.ensures in
    let f = simp to_z-of_z at c.in_ok-parts.ensures in
    let g = rw c.as_slice.ensures.value at f in
    let h = rw c.as_slice-2.ensures.value at g in
    simp to_z-of_z (combined_is_term _ c.in_ok-konst.konst c.args.k c.args.m c.self.inside.parts.items c.o.inside.parts.items c.in_ok-parts.parts.items e h)
