use Rattle.std.proofs.Common.{◌≡◌, take}
use Rattle.cx_close.proofs.knowing.with_all.Given as goal

abbrev pub invariant-loop-t : goal.invariant-loop-t
invariant-loop-t l = l.values.items ≡ take l.t-index l.known
