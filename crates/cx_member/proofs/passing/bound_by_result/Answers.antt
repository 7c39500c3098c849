use Rattle.std.proofs.Common.{◌≡◌, ◌+◌, ◌++◌, ◌∷◌, [], length, arith, rules, subst}
use Rattle.std.specs.Int.{w128}
use Rattle.std.proofs.lemmas.Int.{to_z-of_z}
use Rattle.cx_cells.specs.Layouts.{layout_of}
use Rattle.cx_member.specs.Passing.{ResultHolds}
use Rattle.cx_member.specs.Reading.{Begun}
use Rattle.cx_member.proofs.Bindings.{begun-none, begun-more, begun-stops, begun-all}
use Rattle.cx_member.proofs.passing.bound_by_result.Goals as goal
use mir.Val.{SFits}

pub loop-s-init : goal.loop-s-init
loop-s-init c =
    let z : SFits w128 c.args.z = c.ranges.z in
    simp to_z-of_z (begun-none (ResultHolds (layout_of c.args.memory.now) c.args.kind.now c.args.z) c.args.known.now c.args.n c.copied-values.result.items c.requires.small c.copied-values.ensures)

pub returns-in-None : goal.returns-in-None
returns-in-None c =
    let z : SFits w128 c.args.z = c.ranges.z in
    begun-stops (ResultHolds (layout_of c.args.memory.now) c.args.kind.now c.args.z) c.args.known.now c.args.n c.loop-s.s (simp to_z-of_z at c.in-None.ensures.only)

pub loop-s-preserved : goal.loop-s-preserved
loop-s-preserved c =
    let z : SFits w128 c.args.z = c.ranges.z in
    let f : SFits w128 c.in-Some.v = search rules in
    let e : c.push.new.self.items ≡ c.loop-s.values.items ++ c.in-Some.v ∷ [] = simp to_z-of_z at c.push.ensures.items in
    rw e (simp to_z-of_z (begun-more (ResultHolds (layout_of c.args.memory.now) c.args.kind.now c.args.z) c.args.known.now c.args.n c.loop-s.values.items c.loop-s.s c.in-Some.v (simp to_z-of_z at c.loop-s.invariant) (omega arith) (omega arith) c.in-Some.ensures.small (simp to_z-of_z at c.in-Some.ensures.only)))

pub returns : goal.returns
returns c =
    let z : SFits w128 c.args.z = c.ranges.z in
    let e : c.loop-s.s ≡ length c.args.known.now + c.args.n = omega arith in
    begun-all (ResultHolds (layout_of c.args.memory.now) c.args.kind.now c.args.z) c.args.known.now c.args.n c.loop-s.values.items (subst (λ s. Begun (ResultHolds (layout_of c.args.memory.now) c.args.kind.now c.args.z) c.args.known.now c.args.n c.loop-s.values.items s) e (simp to_z-of_z at c.loop-s.invariant))
