use Rattle.std.proofs.Common.{◌≡◌, ◌+ℤ◌, ◌*◌, ◌^◌, ◌≤◌, drop, unsigned_abs}
use Rattle.cx_entail.specs.Bounds.{least_parts}
use Rattle.cx_entail.proofs.bounding.least_parts.Given as goal

abbrev pub invariant-loop-p : goal.invariant-loop-p
invariant-loop-p l = record {
  same : l.sum +ℤ least_parts l.ranges (drop l.p-index l.parts) ≡ least_parts l.ranges l.parts;
  small : unsigned_abs l.sum ≤ l.p-index * 2 ^ 98;
}
