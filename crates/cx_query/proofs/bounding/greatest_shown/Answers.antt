use Rattle.std.proofs.Common.{rules, sym, ◌∙◌, get_or, pos}
use Rattle.std.specs.Int.{w128}
use Rattle.std.proofs.lemmas.Int.{to_z-of_z}
use Rattle.cx_query.proofs.RangeLaws.{greatest-taken, greatest-less, greatest-not}
use Rattle.cx_query.proofs.bounding.greatest_shown.Goals as goal
use Rattle.cx_query.proofs.bounding.greatest_shown.Goals.{then-best-z+then-is_at_least, else-best-z, else-best-z-via-then-best-z+else-is_at_least, else-best-z-via-else-best-z}
use mir.Val.{SFits}

pub loop-z-preserved : goal.loop-z-preserved
loop-z-preserved c =
    let f : SFits w128 (get_or c.args.thresholds.now c.loop-z.z-index (pos 0)) = search rules in
    elim c.if-best-z.branch [
      | then-best-z+then-is_at_least w ↦
          let a = simp to_z-of_z at w.if-best-z.true in
          let e = simp to_z-of_z at w.best-is in
          greatest-taken c.args.env.now c.args.t.now c.args.thresholds.now c.loop-z.z-index _ _ c.loop-z-test.true a (sym w.is_at_least.ensures ∙ w.if-is_at_least.true) e ∙ c.loop-z.invariant
      | else-best-z w ↦
          elim w.else-best-z.branch [
            | else-best-z-via-then-best-z+else-is_at_least x ↦
                let a = simp to_z-of_z at x.if-best-z.true in
                greatest-not c.args.env.now c.args.t.now c.args.thresholds.now c.loop-z.z-index _ _ c.loop-z-test.true a (sym x.is_at_least.ensures ∙ x.if-is_at_least.false) w.best-is ∙ c.loop-z.invariant
            | else-best-z-via-else-best-z x ↦
                let a = simp to_z-of_z at x.if-best-z.false in
                greatest-less c.args.env.now c.args.t.now c.args.thresholds.now c.loop-z.z-index _ _ c.loop-z-test.true a w.best-is ∙ c.loop-z.invariant
          ]
    ]
