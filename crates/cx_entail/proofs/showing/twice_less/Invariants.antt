use Rattle.std.proofs.Common.{◌≡◌, drop}
use Rattle.cx_entail.specs.Shows.{passes_known, shown_once}
use Rattle.cx_entail.proofs.showing.twice_less.Given as goal

abbrev pub invariant-loop-c : goal.invariant-loop-c
invariant-loop-c l = passes_known (shown_once l.known l.ranges) (drop l.c-index l.known) l.f ≡ passes_known (shown_once l.known l.ranges) l.known l.f
