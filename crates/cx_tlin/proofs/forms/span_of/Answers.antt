use Rattle.std.proofs.Common.{◌∙◌, arith}
use Rattle.cx_tlin.proofs.Places.{spanned}
use Rattle.cx_tlin.proofs.forms.span_of.Goals as goal

pub returns-in-len1-up : goal.returns-in-len1-up
returns-in-len1-up c = c.span_between-in-len1-up.ensures ∙ spanned c.args.lexemes.now c.o-item.result c.index-lexemes-lexemes.result (omega arith) c.o-item.is
