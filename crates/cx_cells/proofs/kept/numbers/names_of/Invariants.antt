use Rattle.std.proofs.Common.{◌≡◌, map, take}
use Rattle.cx_cells.proofs.kept.numbers.names_of.Given as goal

abbrev pub invariant-loop-x : goal.invariant-loop-x
invariant-loop-x g l = l.names ≡ take l.x-index (map g.T.Named.named l.items)
