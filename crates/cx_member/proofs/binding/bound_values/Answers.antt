use Rattle.std.proofs.Common.{◌≡◌, ◌+◌, ◌++◌, ◌∷◌, [], length, arith, rules, subst}
use Rattle.std.specs.Int.{w128}
use Rattle.std.proofs.lemmas.Int.{to_z-of_z}
use Rattle.cx_member.specs.Reading.{Begun, CellsHold}
use Rattle.cx_member.proofs.Bindings.{begun-none, begun-more, begun-stops, begun-all}
use Rattle.cx_member.proofs.binding.bound_values.Goals as goal
use mir.Val.{SFits}

pub loop-s-init : goal.loop-s-init
loop-s-init c =
    begun-none (CellsHold c.args.memory.now c.args.index c.args.off c.args.cells.now) c.args.known.now c.args.n c.copied-values.result.items c.requires.small c.copied-values.ensures

pub returns-in-None : goal.returns-in-None
returns-in-None c =
    begun-stops (CellsHold c.args.memory.now c.args.index c.args.off c.args.cells.now) c.args.known.now c.args.n c.loop-s.s c.in-None.ensures.only

pub loop-s-preserved : goal.loop-s-preserved
loop-s-preserved c =
    let f : SFits w128 c.in-Some.z = search rules in
    let e : c.push.new.self.items ≡ c.loop-s.values.items ++ c.in-Some.z ∷ [] = simp to_z-of_z at c.push.ensures.items in
    rw e (begun-more (CellsHold c.args.memory.now c.args.index c.args.off c.args.cells.now) c.args.known.now c.args.n c.loop-s.values.items c.loop-s.s c.in-Some.z c.loop-s.invariant (omega arith) (omega arith) c.in-Some.ensures.small c.in-Some.ensures.only)

pub returns : goal.returns
returns c =
    let e : c.loop-s.s ≡ length c.args.known.now + c.args.n = omega arith in
    begun-all (CellsHold c.args.memory.now c.args.index c.args.off c.args.cells.now) c.args.known.now c.args.n c.loop-s.values.items (subst (λ s. Begun (CellsHold c.args.memory.now c.args.index c.args.off c.args.cells.now) c.args.known.now c.args.n c.loop-s.values.items s) e c.loop-s.invariant)
