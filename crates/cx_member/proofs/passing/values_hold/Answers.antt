use Rattle.std.proofs.Common.{◌≡◌, true, false, refl, arith, rules, get_or, pos}
use Rattle.std.specs.Int.{w128}
use Rattle.std.proofs.lemmas.Int.{to_z-of_z}
use Rattle.cx_cells.specs.Layouts.{layout_of}
use Rattle.cx_cells.specs.Values.{values_of}
use Rattle.cx_member.proofs.Passed.{goes_on, stops, all_done}
use Rattle.cx_member.proofs.passing.values_hold.Goals as goal
use mir.Val.{SFits}

pub loop-i-preserved : goal.loop-i-preserved
loop-i-preserved c =
    let f : SFits w128 (get_or c.args.given.now c.loop-i.i (pos 0)) = search rules in
    let h = simp to_z-of_z at (c.if-not-value_holds.ensures.0 refl) in
    goes_on (values_of c.args.values.now) (layout_of c.args.memory.now) c.args.kinds.now c.args.given.now c.loop-i.i c.index-kinds-i.result (get_or c.args.given.now c.loop-i.i (pos 0)) (omega arith) (omega arith) c.index-kinds-i.is refl h c.loop-i.invariant

pub returns-then-not-value_holds : goal.returns-then-not-value_holds
returns-then-not-value_holds c =
    let f : SFits w128 (get_or c.args.given.now c.loop-i.i (pos 0)) = search rules in
    let h = simp to_z-of_z at c.if-not-value_holds.ensures.1 in (
      (λ x. absurd (let e : false ≡ true = x in cc)),
      (λ x. absurd (stops (values_of c.args.values.now) (layout_of c.args.memory.now) c.args.kinds.now c.args.given.now c.loop-i.i c.index-kinds-i.result (get_or c.args.given.now c.loop-i.i (pos 0)) (omega arith) (omega arith) c.index-kinds-i.is refl (λ y. let e : false ≡ true = h y in absurd (cc)) c.loop-i.invariant x)),
    )

pub returns : goal.returns
returns c = (
  (λ x. all_done (values_of c.args.values.now) (layout_of c.args.memory.now) c.args.kinds.now c.args.given.now c.loop-i.i (omega arith) (omega arith) c.loop-i.invariant),
  (λ x. refl),
)
