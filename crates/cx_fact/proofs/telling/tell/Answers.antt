use Rattle.std.specs.Prelude.{List}
use Rattle.std.proofs.Common.{subst}
use Rattle.cx_cells.specs.declared.form.Form.{Form}
use Rattle.cx_learn.specs.Answers.{Agrees}
use Rattle.cx_learn.proofs.Learns.{agrees-ok}
use Rattle.cx_fact.specs.Telling.{told}
use Rattle.cx_fact.proofs.Tells.{told-keeps}
use Rattle.cx_fact.proofs.Formed.{told-valid}
use Rattle.cx_fact.proofs.telling.tell.Goals as goal

pub returns-clause-sound : goal.returns-clause-sound
returns-clause-sound c =
    let h : Agrees c.tell_by.result (told c.args.rules.now.forms c.args.env c.args.s) = subst (λ (forms : List Form). Agrees c.tell_by.result (told forms c.args.env c.args.s)) c.as_slice.ensures c.tell_by.ensures in
    agrees-ok c.tell_by.result (told c.args.rules.now.forms c.args.env c.args.s) _ h (λ next e. told-keeps c.args.rules.now.forms c.args.env c.args.s next e)

pub returns-clause-valid : goal.returns-clause-valid
returns-clause-valid c =
    let h : Agrees c.tell_by.result (told c.args.rules.now.forms c.args.env c.args.s) = subst (λ (forms : List Form). Agrees c.tell_by.result (told forms c.args.env c.args.s)) c.as_slice.ensures c.tell_by.ensures in
    agrees-ok c.tell_by.result (told c.args.rules.now.forms c.args.env c.args.s) _ h (λ next e. told-valid c.args.rules.now.forms c.args.env c.args.s next e)
