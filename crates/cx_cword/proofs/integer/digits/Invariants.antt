use Rattle.std.proofs.Common.{◌≤◌, ◌+◌, ◌*◌, ◌^◌, length}
use Rattle.cx_cword.specs.Integers.{digits_of}
use Rattle.cx_cword.proofs.DigitLemmas.{Same}
use Rattle.cx_cword.proofs.integer.digits.Given as goal

abbrev pub invariant-loop-b : goal.invariant-loop-b
invariant-loop-b l = record {
  same : Same (digits_of l.base l.value l.rest) (digits_of l.base 0 l.text);
  small : l.value ≤ 2 ^ 64 * 16 + 16;
}

abbrev pub decreases-loop-b : goal.decreases-loop-b
decreases-loop-b l = length l.rest
