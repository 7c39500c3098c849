use Rattle.std.proofs.Common.{◌≡◌, ◌+◌, ◌≤◌, length}
use Rattle.cx_lex.specs.Directives as spec
use Rattle.cx_lex.proofs.directive.word_len.Given as goal

abbrev pub decreases-loop-rest : goal.decreases-loop-rest
decreases-loop-rest l = length l.rest

abbrev pub invariant-loop-rest : goal.invariant-loop-rest
invariant-loop-rest l = record {
  told : l.n + spec.word_len l.rest ≡ spec.word_len l.line;
  within : l.n + length l.rest ≤ length l.line;
}
