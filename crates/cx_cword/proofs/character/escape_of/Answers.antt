use Rattle.std.proofs.Common.{ap, ◌∙◌}
use Rattle.cx_cword.specs.Words.{look_up}
use Rattle.cx_cword.proofs.Suffixes.{escapes_table}
use Rattle.cx_cword.proofs.character.escape_of.Goals as goal

pub returns : goal.returns
returns c = c.look_up.ensures ∙ ap (λ t. look_up t c.args.text.now) escapes_table
