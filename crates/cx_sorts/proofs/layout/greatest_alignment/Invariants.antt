use Rattle.std.proofs.Common.{◌≡◌, ◌≤◌, max, drop}
use Rattle.cx_sorts.specs.Layout as layout
use Rattle.cx_sorts.proofs.layout.greatest_alignment.Given as goal

abbrev pub invariant-loop-m : goal.invariant-loop-m
invariant-loop-m l =
    (max l.greatest (layout.greatest_alignment (drop l.m-index l.members)) ≡ layout.greatest_alignment l.members)
    × (1 ≤ l.greatest)
    × (l.greatest ≤ 8)
