use Rattle.cx_form.proofs.Spans.{between_is}
use Rattle.cx_form.proofs.c_file.span_between.Goals as goal

pub returns-then-first-past : goal.returns-then-first-past
returns-then-first-past c = between_is c.args.first c.args.past _
