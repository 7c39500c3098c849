use Rattle.std.proofs.Common.{◌≡◌, map, drop}
use Rattle.cx_tsyn.specs.Lins.{lin_part_tree}
use Rattle.cx_tnumber.specs.Numbers.{no_other, rest_of}
use Rattle.cx_tnumber.specs.Sums.{summed}
use Rattle.cx_tnumber.proofs.forms.no_other.Given as goal

abbrev pub invariant-loop-signed : goal.invariant-loop-signed
invariant-loop-signed l =
    no_other l.text (summed l.sums) (rest_of (map (λ p. (p.0, lin_part_tree p.1)) (drop l.signed-index l.rest)))
    ≡ no_other l.text (summed l.sums) (rest_of (map (λ p. (p.0, lin_part_tree p.1)) l.rest))
