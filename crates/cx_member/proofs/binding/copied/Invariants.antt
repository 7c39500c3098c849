use Rattle.std.proofs.Common.{◌≡◌, take}
use Rattle.cx_member.proofs.binding.copied.Given as goal

abbrev pub invariant-loop-z : goal.invariant-loop-z
invariant-loop-z l = l.values.items ≡ take l.z-index l.known
