use Rattle.std.proofs.Common.{rules, Some, ◌∙◌}
use Rattle.std.proofs.lemmas.Int.{to_z-of_z}
use mir.Syntax.{w128}
use mir.Val.{SFits}
use Rattle.cx_tnumber.proofs.Limits.{passed_next, sum_next}
use Rattle.cx_tnumber.proofs.forms.with_rest.Goals as goal

pub loop-signed-preserved : goal.loop-signed-preserved
loop-signed-preserved c =
    let fits : SFits w128 c.in_ok-total.total = search rules in
    let grown = to_z-of_z w128 c.in_ok-total.total fits ∙ c.in_ok-total.ensures.value in
    record {
      sums = sum_next (Some c.args.text.now) c.args.rest.now c.loop-signed.signed-index c.signed-item.result _ _ _ c.loop-signed-test.true c.signed-item.is grown c.loop-signed.invariant.sums;
      passes = λ o. c.loop-signed.invariant.passes (passed_next (Some c.args.text.now) c.args.rest.now c.loop-signed.signed-index c.signed-item.result _ _ c.loop-signed-test.true c.signed-item.is grown o);
    }
