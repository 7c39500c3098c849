use Rattle.cx_term.proofs.Limits.{parts-up_to}
use Rattle.cx_term.proofs.combine.combined_parts.Goals as goal

pub combined_wide-requires-clause-first_small : goal.combined_wide-requires-clause-first_small
combined_wide-requires-clause-first_small c = parts-up_to _ c.requires.first_within

pub combined_wide-requires-clause-second_small : goal.combined_wide-requires-clause-second_small
combined_wide-requires-clause-second_small c = parts-up_to _ c.requires.second_within
