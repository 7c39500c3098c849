use Rattle.std.proofs.Common.{◌≡◌, drop}
use Rattle.std.specs.List.{list_any}
use Rattle.cx_entail.specs.Shows.{passes, less_multiple, shown_once}
use Rattle.cx_entail.proofs.showing.twice_among.Given as goal

abbrev pub invariant-loop-k : goal.invariant-loop-k
invariant-loop-k l =
    list_any (λ k. passes (shown_once l.known l.ranges) (less_multiple l.f l.g k)) (drop l.k-index l.ks) ≡ list_any (λ k. passes (shown_once l.known l.ranges) (less_multiple l.f l.g k)) l.ks
