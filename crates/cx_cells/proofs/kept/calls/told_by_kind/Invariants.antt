use Rattle.std.proofs.Common.{ℕ, ◌<◌, ◌≤◌}
use Rattle.std.specs.Prelude.{IsSome}
use Rattle.cx_cells.specs.Symbols.{told_by}
use Rattle.cx_cells.proofs.kept.calls.told_by_kind.Given as goal

abbrev pub invariant-loop-s : goal.invariant-loop-s
invariant-loop-s l = (t : ℕ) → l.first ≤ t → t < l.s → IsSome (told_by t l.kind)
