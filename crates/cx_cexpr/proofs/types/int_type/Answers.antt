use Rattle.std.proofs.Common.{ap, ◌∙◌}
use Rattle.cx_cexpr.specs.IntWords.{is_listed}
use Rattle.cx_cexpr.specs.Reading.{with_word}
use Rattle.cx_cexpr.proofs.IntWords.{none_listed, first_listed}
use Rattle.cx_cexpr.proofs.types.int_type.Goals as goal

pub with_word-requires : goal.with_word-requires
with_word-requires c = ap is_listed c.no_word.ensures ∙ none_listed

pub read_words-read-requires : goal.read_words-read-requires
read_words-read-requires c = ap is_listed (c.with_word.ensures.value ∙ ap (with_word c.args.word) c.no_word.ensures) ∙ first_listed c.args.word
