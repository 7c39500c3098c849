use Rattle.std.proofs.Common.{ℕ, ◌<◌}
use Rattle.cx_cells.specs.Pairs.{PairsAt}
use Rattle.cx_cells.proofs.kept.pairs.all_apart.Given as goal

abbrev pub invariant-loop-i : goal.invariant-loop-i
invariant-loop-i g l = (k : ℕ) → k < l.i → PairsAt g.T.Apart.apart l.items k
