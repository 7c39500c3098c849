use Rattle.std.proofs.Common.{sym, ◌∙◌, Some}
use Rattle.cx_query.proofs.KindLaws.{holds_kind}
use Rattle.cx_query.proofs.kinds.shown_with.Goals as goal

pub returns-clause-sound : goal.returns-clause-sound
returns-clause-sound c = λ e. holds_kind c.args.env.now (Some c.args.values.now) c.args.kind.now c.args.size c.args.value.now (sym c.kind_by.ensures ∙ e)
