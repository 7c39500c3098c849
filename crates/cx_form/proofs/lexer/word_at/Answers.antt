use Rattle.std.proofs.Common.{rules}
use Rattle.cx_form.proofs.Lexing.{word_is}
use Rattle.cx_form.proofs.lexer.word_at.Goals as goal

pub returns : goal.returns
returns c = word_is c.args.at c.args.text.now c.in_ok-copied.field-0 _ (search rules)
