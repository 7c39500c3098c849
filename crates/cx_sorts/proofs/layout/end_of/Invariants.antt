use Rattle.std.proofs.Common.{◌≡◌, ◌*◌, ◌≤◌, drop}
use Rattle.cx_sorts.specs.Layout.{end_from}
use Rattle.cx_sorts.proofs.layout.end_of.Given as goal

abbrev pub invariant-loop-m : goal.invariant-loop-m
invariant-loop-m l = (end_from l.past (drop l.m-index l.members) ≡ end_from 0 l.members) × (l.past ≤ 16 * l.m-index)
