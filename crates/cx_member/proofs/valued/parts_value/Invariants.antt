use Rattle.std.proofs.Common.{◌≡◌, ◌+ℤ◌, ◌*◌, ◌^◌, ◌≤◌, drop, unsigned_abs}
use Rattle.cx_term.specs.Forms.{value_parts}
use Rattle.cx_cells.specs.Values.{values_of}
use Rattle.cx_member.proofs.valued.parts_value.Given as goal

abbrev pub invariant-loop-p : goal.invariant-loop-p
invariant-loop-p l = record {
  same : l.sum +ℤ value_parts (values_of l.values) (drop l.p-index l.parts) ≡ value_parts (values_of l.values) l.parts;
  small : unsigned_abs l.sum ≤ l.p-index * 2 ^ 96;
}
