use Rattle.std.proofs.Common.{ℕ, ◌<◌}
use Rattle.std.specs.Prelude.{IfSome, slice_get}
use Rattle.cx_base.specs.Bytes.{AreBytes}
use Rattle.cx_member.proofs.region.memory_known.Given as goal

abbrev pub invariant-loop-i : goal.invariant-loop-i
invariant-loop-i l = (k : ℕ) → k < l.i → IfSome (slice_get l.memory k) (λ r. AreBytes r.bytes)
