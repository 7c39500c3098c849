use Rattle.std.proofs.Common.{◌≡◌, ◌+◌, length}
use Rattle.std.specs.List.{prefix_len}
use Rattle.cx_form.specs.Tokens.{goes_on}
use Rattle.cx_form.proofs.lexer.name_len.Given as goal

abbrev pub invariant-loop-b : goal.invariant-loop-b
invariant-loop-b l = record {
  counted : prefix_len goes_on l.bytes ≡ l.n + prefix_len goes_on l.rest;
  within : l.n + length l.rest ≡ length l.bytes;
}

abbrev pub decreases-loop-b : goal.decreases-loop-b
decreases-loop-b l = length l.rest
