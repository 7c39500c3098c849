use Rattle.std.proofs.Common.{◌≡◌, drop}
use Rattle.cx_query.specs.Range.{greatest_shown}
use Rattle.cx_query.proofs.bounding.greatest_shown.Given as goal

abbrev pub invariant-loop-z : goal.invariant-loop-z
invariant-loop-z l = greatest_shown l.env l.t (drop l.z-index l.thresholds) l.best ≡ greatest_shown l.env l.t l.thresholds l.initial.best
