use Rattle.std.proofs.Common.{ap, ◌∙◌}
use Rattle.cx_cword.specs.Words.{look_up, keyword_of}
use Rattle.cx_cword.proofs.Tables.{keywords_table}
use Rattle.cx_cword.proofs.word.keyword_of.Goals as goal

pub returns : goal.returns
unfolding keyword_of
returns c = c.look_up.ensures ∙ ap (λ t. look_up t c.args.text.now) keywords_table
