use Rattle.cx_term.proofs.Limits.{parts-up_to}
use Rattle.cx_term.proofs.replace.put_konst.Goals as goal

pub replaced_konst-low-requires-clause-small : goal.replaced_konst-low-requires-clause-small
replaced_konst-low-requires-clause-small c = parts-up_to _ c.requires.within
