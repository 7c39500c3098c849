use Rattle.std.proofs.Common.{refl}
use Rattle.cx_cname.proofs.Undoing.{past_constant}
use Rattle.cx_cname.proofs.journal.add_constant.Goals as goal

pub returns-in-Ok-clause-kept : goal.returns-in-Ok-clause-kept
returns-in-Ok-clause-kept c = past_constant _ _ _ _ _ c.in_ok-push.ensures.ok c.in-Ok.ensures.ok refl
