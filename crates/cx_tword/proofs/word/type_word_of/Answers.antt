use Rattle.std.proofs.Common.{ap, ◌∙◌}
use Rattle.cx_cword.specs.Words.{look_up}
use Rattle.cx_tword.specs.Words.{type_word_of}
use Rattle.cx_tword.proofs.Tables.{type_words_table}
use Rattle.cx_tword.proofs.word.type_word_of.Goals as goal

pub returns : goal.returns
unfolding type_word_of
returns c = c.look_up.ensures ∙ ap (λ t. look_up t c.args.text.now) type_words_table
