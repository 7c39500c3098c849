use Rattle.std.proofs.Common.{◌≡◌, ◌+ℤ◌, ◌*◌, ◌^◌, ◌≤◌, drop, unsigned_abs}
use Rattle.cx_entail.specs.Bounds.{most_parts}
use Rattle.cx_entail.proofs.bounding.most_parts.Given as goal

abbrev pub invariant-loop-p : goal.invariant-loop-p
invariant-loop-p l = record {
  same : l.sum +ℤ most_parts l.ranges (drop l.p-index l.parts) ≡ most_parts l.ranges l.parts;
  small : unsigned_abs l.sum ≤ l.p-index * 2 ^ 98;
}
