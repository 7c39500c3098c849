use Rattle.std.proofs.Common.{◌≡◌, map, drop}
use Rattle.cx_tsyn.specs.Lins.{lin_part_tree}
use Rattle.cx_tnumber.specs.Numbers.{all_gone, rest_of}
use Rattle.cx_tnumber.specs.Sums.{summed}
use Rattle.cx_tnumber.proofs.forms.are_gone.Given as goal

abbrev pub invariant-loop-signed : goal.invariant-loop-signed
invariant-loop-signed l =
    all_gone (summed l.sums) (rest_of (map (λ p. (p.0, lin_part_tree p.1)) (drop l.signed-index l.rest)))
    ≡ all_gone (summed l.sums) (rest_of (map (λ p. (p.0, lin_part_tree p.1)) l.rest))
