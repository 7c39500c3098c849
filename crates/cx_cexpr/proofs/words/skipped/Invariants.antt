use Rattle.std.proofs.Common.{◌≡◌, length}
use Rattle.cx_cexpr.specs.Reading.{skip_at}
use Rattle.cx_cexpr.proofs.words.skipped.Given as goal

abbrev pub invariant-loop-o : goal.invariant-loop-o
invariant-loop-o l = skip_at l.passed.past l.passed.rest.now ≡ skip_at l.initial.passed.past l.initial.passed.rest.now

abbrev pub decreases-loop-o : goal.decreases-loop-o
decreases-loop-o l = length l.passed.rest.now
