use Rattle.cx_term.proofs.Limits.{parts-up_to}
use Rattle.cx_term.proofs.replace.put_parts.Goals as goal

pub replaced_parts-requires-clause-small : goal.replaced_parts-requires-clause-small
replaced_parts-requires-clause-small c = parts-up_to _ c.requires.within
