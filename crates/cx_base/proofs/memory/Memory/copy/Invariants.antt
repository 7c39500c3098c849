use Rattle.std.proofs.Common.{◌≡◌, take}
use Rattle.cx_base.proofs.memory.Memory.copy.Given as goal

abbrev pub invariant-loop-r : goal.invariant-loop-r
invariant-loop-r l = l.regions.items ≡ take l.r-index l.r-items
