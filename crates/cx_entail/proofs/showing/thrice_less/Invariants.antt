use Rattle.std.proofs.Common.{◌≡◌, drop}
use Rattle.cx_entail.specs.Shows.{passes_known, shown_twice}
use Rattle.cx_entail.proofs.showing.thrice_less.Given as goal

abbrev pub invariant-loop-c : goal.invariant-loop-c
invariant-loop-c l = passes_known (shown_twice l.known l.ranges) (drop l.c-index l.known) l.f ≡ passes_known (shown_twice l.known l.ranges) l.known l.f
