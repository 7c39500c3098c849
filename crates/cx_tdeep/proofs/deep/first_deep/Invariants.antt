use Rattle.std.proofs.Common.{◌≡◌, [], length, reverse}
use Rattle.cx_tdeep.specs.Brackets.{first_deep}
use Rattle.cx_tdeep.proofs.deep.first_deep.Given as goal

abbrev pub invariant-loop-o : goal.invariant-loop-o
invariant-loop-o l = first_deep (reverse l.stack) l.rest ≡ first_deep [] l.initial.rest

abbrev pub decreases-loop-o : goal.decreases-loop-o
decreases-loop-o l = length l.rest
