use Rattle.std.proofs.Common.{◌≡◌, ◌≤◌, drop, length, []}
use Rattle.cx_entail.specs.Shows.{all_factors}
use Rattle.cx_entail.proofs.multiples.each_factors.Given as goal

abbrev pub invariant-loop-p : goal.invariant-loop-p
invariant-loop-p l = record {
  same : all_factors l.g.parts (drop l.p-index l.p-items) l.found.items ≡ all_factors l.g.parts l.p-items [];
  few : length l.found.items ≤ l.p-index;
}
