use Rattle.std.proofs.Common.{◌≡◌, ◌≤◌, ◌^◌, drop}
use Rattle.cx_entail.specs.Bounds.{modulus_with}
use Rattle.cx_entail.proofs.bounding.modulus_parts.Given as goal

abbrev pub invariant-loop-p : goal.invariant-loop-p
invariant-loop-p l = record {
  same : modulus_with l.ranges l.m (drop l.p-index l.parts) ≡ modulus_with l.ranges 0 l.parts;
  small : l.m ≤ 2 ^ 96;
}
