use Rattle.std.proofs.Common.{sym, ◌∙◌, None}
use Rattle.cx_query.proofs.KindLaws.{holds_kind}
use Rattle.cx_query.proofs.kinds.shown.Goals as goal

pub returns-clause-sound : goal.returns-clause-sound
returns-clause-sound c = λ e. holds_kind c.args.env.now None c.args.kind.now c.args.size c.args.value.now (sym c.kind_by.ensures ∙ e)
