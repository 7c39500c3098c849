use Rattle.std.proofs.Common.{◌≡◌, ◌+◌, ◌++◌, ◌∷◌, [], arith, rules, subst}
use Rattle.std.specs.Int.{w128}
use Rattle.std.proofs.lemmas.Int.{to_z-of_z}
use Rattle.cx_cells.specs.Layouts.{layout_of}
use Rattle.cx_member.specs.Passing.{ArgsHold}
use Rattle.cx_member.specs.Reading.{Begun}
use Rattle.cx_member.proofs.Bindings.{begun-none, begun-more, begun-stops, begun-all}
use Rattle.cx_member.proofs.passing.bound_by_args.Goals as goal
use mir.Val.{SFits}

pub loop-s-init : goal.loop-s-init
loop-s-init c =
    begun-none (ArgsHold (layout_of c.args.memory.now) c.args.kinds.now c.args.given.now) [] c.args.n c.new-values.result.items (λ k d h. absurd (omega arith)) c.new-values.ensures

pub returns-in-None : goal.returns-in-None
returns-in-None c =
    begun-stops (ArgsHold (layout_of c.args.memory.now) c.args.kinds.now c.args.given.now) [] c.args.n c.loop-s.s c.in-None.ensures.only

pub loop-s-preserved : goal.loop-s-preserved
loop-s-preserved c =
    let f : SFits w128 c.in-Some.z = search rules in
    let e : c.push.new.self.items ≡ c.loop-s.values.items ++ c.in-Some.z ∷ [] = simp to_z-of_z at c.push.ensures.items in
    rw e (begun-more (ArgsHold (layout_of c.args.memory.now) c.args.kinds.now c.args.given.now) [] c.args.n c.loop-s.values.items c.loop-s.s c.in-Some.z c.loop-s.invariant (omega arith) (omega arith) c.in-Some.ensures.small c.in-Some.ensures.only)

pub returns : goal.returns
returns c =
    let e : c.loop-s.s ≡ 0 + c.args.n = omega arith in
    begun-all (ArgsHold (layout_of c.args.memory.now) c.args.kinds.now c.args.given.now) [] c.args.n c.loop-s.values.items (subst (λ s. Begun (ArgsHold (layout_of c.args.memory.now) c.args.kinds.now c.args.given.now) [] c.args.n c.loop-s.values.items s) e c.loop-s.invariant)
