use Rattle.std.proofs.Common.{rules, sym, ◌∙◌, get_or, pos}
use Rattle.std.specs.Int.{w128}
use Rattle.std.proofs.lemmas.Int.{to_z-of_z}
use Rattle.cx_query.proofs.RangeLaws.{least-taken, least-less, least-not}
use Rattle.cx_query.proofs.bounding.least_shown.Goals as goal
use Rattle.cx_query.proofs.bounding.least_shown.Goals.{then-z-best+then-is_at_most, else-z-best, else-z-best-via-then-z-best+else-is_at_most, else-z-best-via-else-z-best}
use mir.Val.{SFits}

pub loop-z-preserved : goal.loop-z-preserved
loop-z-preserved c =
    let f : SFits w128 (get_or c.args.thresholds.now c.loop-z.z-index (pos 0)) = search rules in
    elim c.if-z-best.branch [
      | then-z-best+then-is_at_most w ↦
          let a = simp to_z-of_z at w.if-z-best.true in
          let e = simp to_z-of_z at w.best-is in
          least-taken c.args.env.now c.args.t.now c.args.thresholds.now c.loop-z.z-index _ _ c.loop-z-test.true a (sym w.is_at_most.ensures ∙ w.if-is_at_most.true) e ∙ c.loop-z.invariant
      | else-z-best w ↦
          elim w.else-z-best.branch [
            | else-z-best-via-then-z-best+else-is_at_most x ↦
                let a = simp to_z-of_z at x.if-z-best.true in
                least-not c.args.env.now c.args.t.now c.args.thresholds.now c.loop-z.z-index _ _ c.loop-z-test.true a (sym x.is_at_most.ensures ∙ x.if-is_at_most.false) w.best-is ∙ c.loop-z.invariant
            | else-z-best-via-else-z-best x ↦
                let a = simp to_z-of_z at x.if-z-best.false in
                least-less c.args.env.now c.args.t.now c.args.thresholds.now c.loop-z.z-index _ _ c.loop-z-test.true a w.best-is ∙ c.loop-z.invariant
          ]
    ]
