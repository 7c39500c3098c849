use Rattle.std.proofs.Common.{◌≡◌, length}
use Rattle.cx_tctype.specs.Reading.{after_skips}
use Rattle.cx_tctype.proofs.words.after_skips.Given as goal

abbrev pub invariant-loop-o : goal.invariant-loop-o
invariant-loop-o l = after_skips l.rest ≡ after_skips l.initial.rest

abbrev pub decreases-loop-o : goal.decreases-loop-o
decreases-loop-o l = length l.rest
