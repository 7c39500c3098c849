use Rattle.std.proofs.Common.{◌≡◌, length}
use Rattle.cx_tctype.specs.Words.{pointee_tree}
use Rattle.cx_tctype.specs.Reading.{tail_at}
use Rattle.cx_tctype.proofs.reader.tail.Given as goal

abbrev pub invariant-loop-o : goal.invariant-loop-o
invariant-loop-o l = tail_at (pointee_tree l.tree) l.rest ≡ tail_at (pointee_tree l.initial.tree) l.initial.rest

abbrev pub decreases-loop-o : goal.decreases-loop-o
decreases-loop-o l = length l.rest
