use Rattle.std.proofs.Common.{ℕ, ◌<◌}
use Rattle.std.specs.Prelude.{IsSomeAnd, slice_get}
use Rattle.cx_member.specs.Reading.{Stands}
use Rattle.cx_member.proofs.pointing.region_at.Given as goal

abbrev pub invariant-loop-i : goal.invariant-loop-i
invariant-loop-i l = (k : ℕ) → k < l.i → IsSomeAnd (slice_get l.memory k) (Stands l.name l.base) → ⊥
