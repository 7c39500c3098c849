use Rattle.std.proofs.Common.{sym, ◌∙◌}
use Rattle.cx_close.proofs.Closed.{no_cases}
use Rattle.cx_close.proofs.closing.cases_shown.Goals as goal

pub returns-else-is_empty : goal.returns-else-is_empty
returns-else-is_empty c =
    c.any_shown.ensures ∙ no_cases c.args.own c.args.env.now c.args.form.now c.args.s c.args.f.now c.args.values.now c.args.cases.now (sym c.is_empty.ensures ∙ c.if-is_empty.false)
