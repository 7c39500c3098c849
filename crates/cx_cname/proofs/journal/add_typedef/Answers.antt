use Rattle.std.proofs.Common.{refl}
use Rattle.cx_cname.proofs.Undoing.{past_typedef}
use Rattle.cx_cname.proofs.journal.add_typedef.Goals as goal

pub returns-in-Ok-clause-kept : goal.returns-in-Ok-clause-kept
returns-in-Ok-clause-kept c = past_typedef _ _ _ _ (c.args.name, c.args.ctype) c.in_ok-push.ensures.ok (rw c.in-Ok.ensures.ok refl)
