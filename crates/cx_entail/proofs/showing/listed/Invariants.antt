use Rattle.std.proofs.Common.{◌≡◌, drop}
use Rattle.std.specs.List.{list_any}
use Rattle.cx_entail.specs.Shows.{is_listed_by}
use Rattle.cx_entail.proofs.showing.listed.Given as goal

abbrev pub invariant-loop-c : goal.invariant-loop-c
invariant-loop-c l = list_any (is_listed_by l.t) (drop l.c-index l.known) ≡ list_any (is_listed_by l.t) l.known
