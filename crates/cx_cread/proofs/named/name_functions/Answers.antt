use Rattle.std.proofs.Common.{sym, subst, ◌∙◌}
use Rattle.cx_cword.specs.declared.lexeme.Lexeme.{Lexeme}
use Rattle.cx_cread.specs.Reading.{IsNumbered}
use Rattle.cx_cread.proofs.Words.{words_all}
use Rattle.cx_cread.proofs.named.name_functions.Goals as goal

pub number_of-requires : goal.number_of-requires
number_of-requires c =
    let all = words_all c.args.names.now c.args.bytes.now c.args.lexemes.now c.as_slice-word-items.result.now (c.as_slice-word-items.ensures ∙ c.in_ok-words.ensures) c.requires in
    subst (λ (o : Lexeme). IsNumbered c.args.names.now c.args.bytes.now o) (sym c.word-item.is) (all c.loop-word.word-index c.word-item.result c.loop-word-test.true)
