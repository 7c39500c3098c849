use Rattle.std.specs.Prelude.{List}
use Rattle.std.proofs.Common.{subst}
use Rattle.cx_cells.specs.declared.form.Form.{Form}
use Rattle.cx_learn.specs.Answers.{Agrees}
use Rattle.cx_learn.proofs.Learns.{agrees-ok}
use Rattle.cx_fact.specs.Telling.{settled}
use Rattle.cx_fact.proofs.Settles.{settled-keeps}
use Rattle.cx_fact.proofs.Formed.{settled-valid}
use Rattle.cx_fact.proofs.telling.settle.Goals as goal

pub returns-clause-sound : goal.returns-clause-sound
returns-clause-sound c =
    let h : Agrees c.settle_by.result (settled c.args.rules.now.forms c.args.env c.args.s) = subst (λ (forms : List Form). Agrees c.settle_by.result (settled forms c.args.env c.args.s)) c.as_slice.ensures c.settle_by.ensures in
    agrees-ok c.settle_by.result (settled c.args.rules.now.forms c.args.env c.args.s) _ h (λ next e. settled-keeps c.args.rules.now.forms c.args.env c.args.s next e)

pub returns-clause-valid : goal.returns-clause-valid
returns-clause-valid c =
    let h : Agrees c.settle_by.result (settled c.args.rules.now.forms c.args.env c.args.s) = subst (λ (forms : List Form). Agrees c.settle_by.result (settled forms c.args.env c.args.s)) c.as_slice.ensures c.settle_by.ensures in
    agrees-ok c.settle_by.result (settled c.args.rules.now.forms c.args.env c.args.s) _ h (λ next e. settled-valid c.args.rules.now.forms c.args.env c.args.s next e)
