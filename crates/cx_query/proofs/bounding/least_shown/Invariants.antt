use Rattle.std.proofs.Common.{◌≡◌, drop}
use Rattle.cx_query.specs.Range.{least_shown}
use Rattle.cx_query.proofs.bounding.least_shown.Given as goal

abbrev pub invariant-loop-z : goal.invariant-loop-z
invariant-loop-z l = least_shown l.env l.t (drop l.z-index l.thresholds) l.best ≡ least_shown l.env l.t l.thresholds l.initial.best
