use Rattle.std.proofs.Common.{◌≡◌, drop}
use Rattle.cx_entail.specs.Shows.{passes_known, shown_none}
use Rattle.cx_entail.proofs.showing.once_less.Given as goal

abbrev pub invariant-loop-c : goal.invariant-loop-c
invariant-loop-c l = passes_known (shown_none l.ranges) (drop l.c-index l.known) l.f ≡ passes_known (shown_none l.ranges) l.known l.f
