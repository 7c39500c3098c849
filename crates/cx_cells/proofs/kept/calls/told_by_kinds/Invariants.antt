use Rattle.std.proofs.Common.{ℕ, ◌<◌}
use Rattle.std.specs.Prelude.{IsSome}
use Rattle.cx_cells.specs.Symbols.{telling_kind}
use Rattle.cx_cells.proofs.kept.calls.told_by_kinds.Given as goal

abbrev pub invariant-loop-s : goal.invariant-loop-s
invariant-loop-s l = (t : ℕ) → t < l.s → IsSome (telling_kind t l.kinds)
