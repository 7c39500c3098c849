use Rattle.std.proofs.Common.{refl}
use Rattle.cx_cname.proofs.Undoing.{past_enumeration}
use Rattle.cx_cname.proofs.journal.add_enumeration.Goals as goal

pub returns-in-Ok-clause-kept : goal.returns-in-Ok-clause-kept
returns-in-Ok-clause-kept c = past_enumeration _ _ _ _ c.args.name c.in_ok-push.ensures.ok (rw c.in-Ok.ensures.ok refl)
