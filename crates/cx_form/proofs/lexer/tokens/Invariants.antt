use Rattle.std.proofs.Common.{◌≡◌, ◌+◌, length}
use Rattle.cx_form.specs.Tokens.{tokens_from}
use Rattle.cx_form.specs.Lexing.{behind}
use Rattle.cx_form.proofs.lexer.tokens.Given as goal

abbrev pub invariant-loop-b : goal.invariant-loop-b
invariant-loop-b l = record {
  told : behind l.all (tokens_from 0 l.at l.rest) ≡ tokens_from 0 0 l.bytes;
  within : l.at + length l.rest ≡ length l.bytes;
}

abbrev pub decreases-loop-b : goal.decreases-loop-b
decreases-loop-b l = length l.rest
