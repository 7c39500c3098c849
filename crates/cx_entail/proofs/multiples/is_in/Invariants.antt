use Rattle.std.proofs.Common.{◌≡◌, drop}
use Rattle.std.specs.List.{list_any}
use Rattle.cx_entail.specs.Shows.{same_factors}
use Rattle.cx_entail.proofs.multiples.is_in.Given as goal

abbrev pub invariant-loop-f : goal.invariant-loop-f
invariant-loop-f l = list_any (same_factors l.k) (drop l.f-index l.found) ≡ list_any (same_factors l.k) l.found
