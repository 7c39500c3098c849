use Rattle.std.proofs.Common.{ap, ◌∙◌}
use Rattle.cx_cword.specs.Words.{look_up, punctuator_of}
use Rattle.cx_cword.proofs.Tables.{punctuators_table}
use Rattle.cx_cword.proofs.word.punctuator_of.Goals as goal

pub returns : goal.returns
unfolding punctuator_of
returns c = c.look_up.ensures ∙ ap (λ t. look_up t c.args.text.now) punctuators_table
