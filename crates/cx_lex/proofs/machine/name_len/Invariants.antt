use Rattle.std.proofs.Common.{◌≡◌, ◌+◌, ◌≤◌, length}
use Rattle.cx_lex.specs.Lexed as spec
use Rattle.cx_lex.proofs.machine.name_len.Given as goal

abbrev pub decreases-loop-rest : goal.decreases-loop-rest
decreases-loop-rest l = length l.rest

abbrev pub invariant-loop-rest : goal.invariant-loop-rest
invariant-loop-rest l = record {
  told : l.n + spec.name_len l.rest ≡ spec.name_len l.text;
  within : l.n + length l.rest ≤ length l.text;
}
