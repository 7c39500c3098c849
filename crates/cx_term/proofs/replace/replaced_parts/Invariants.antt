use Rattle.std.proofs.Common.{◌≡◌, ◌≤◌, ◌*◌, ◌^◌, [], drop, length}
use Rattle.cx_term.specs.Sums.{AreUpTo}
use Rattle.cx_term.specs.Replaced.{replaced_parts}
use Rattle.cx_term.proofs.replace.replaced_parts.Given as goal

abbrev pub invariant-loop-p : goal.invariant-loop-p
invariant-loop-p l = record {
  same : replaced_parts l.forms (drop l.p-index l.parts) l.wide.items ≡ replaced_parts l.forms l.parts [];
  few : length l.wide.items ≤ 4 * l.p-index;
  small : AreUpTo (l.p-index * 2 ^ 67) l.wide.items;
}
