use Rattle.std.proofs.Common.{ap, ◌∙◌}
use Rattle.cx_cword.specs.Words.{look_up}
use Rattle.cx_cword.proofs.Suffixes.{suffixes_table}
use Rattle.cx_cword.proofs.integer.suffix_of.Goals as goal

pub returns : goal.returns
returns c = c.look_up.ensures ∙ ap (λ t. look_up t c.args.text.now) suffixes_table
