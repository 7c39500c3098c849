use Rattle.std.proofs.Common.{◌≡◌, take}
use Rattle.cx_state.proofs.copy.copy_facts.Given as goal

abbrev pub invariant-loop-f : goal.invariant-loop-f
invariant-loop-f l = l.copy ≡ take l.f-index l.facts
