use Rattle.cx_close.proofs.Closed.{form_few}
use Rattle.cx_close.proofs.closing.closes_by.Goals as goal

pub closes_form-requires-clause-few : goal.closes_form-requires-clause-few
closes_form-requires-clause-few c = (form_few c.args.forms.now c.args.env.now c.args.s c.args.f.now c.in-Some.form.now c.requires.kept c.requires.valid c.requires.fact c.in-Some.ensures).0

pub closes_form-requires-clause-branches : goal.closes_form-requires-clause-branches
closes_form-requires-clause-branches c = (form_few c.args.forms.now c.args.env.now c.args.s c.args.f.now c.in-Some.form.now c.requires.kept c.requires.valid c.requires.fact c.in-Some.ensures).1
