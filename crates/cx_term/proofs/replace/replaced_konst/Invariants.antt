use Rattle.std.proofs.Common.{◌≡◌, ◌≤◌, ◌+◌, ◌*◌, ◌^◌, drop, pos, ◌+ℤ◌, ◌*ℤ◌, unsigned_abs}
use Rattle.cx_term.specs.Replaced.{replaced_konst}
use Rattle.cx_term.proofs.replace.replaced_konst.Given as goal

abbrev pub invariant-loop-p : goal.invariant-loop-p
invariant-loop-p l = record {
  same : replaced_konst l.forms (drop l.p-index l.parts) (l.low +ℤ l.high *ℤ pos (2 ^ 64)) ≡ replaced_konst l.forms l.parts l.konst;
  low_small : unsigned_abs l.low ≤ 2 ^ 64 + l.p-index * 2 ^ 96;
  high_small : unsigned_abs l.high ≤ 2 ^ 33 + l.p-index * 2 ^ 96;
}
