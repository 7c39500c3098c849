use Rattle.std.proofs.Common.{◌≡◌, ◌≤◌, ◌^◌, drop, unsigned_abs}
use Rattle.cx_entail.specs.Joins.{least_from, AreEnds}
use Rattle.cx_entail.proofs.joining.threshold_from.Given as goal

abbrev pub invariant-loop-t : goal.invariant-loop-t
invariant-loop-t l = record {
  same : least_from l.z (drop l.t-index l.thresholds) l.best ≡ least_from l.z l.thresholds l.initial.best;
  small : unsigned_abs l.best ≤ 2 ^ 65;
  ends : AreEnds (drop l.t-index l.thresholds);
}
