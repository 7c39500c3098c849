use Rattle.std.proofs.Common.{◌≡◌, map, drop}
use Rattle.cx_tsyn.specs.Lins.{lin_part_tree}
use Rattle.cx_tnumber.specs.Numbers.{rest_of}
use Rattle.cx_tforms.specs.Terms.{factors_are_small}
use Rattle.cx_tforms.specs.Amounts.{amount}
use Rattle.cx_tforms.proofs.terms.rest_is_small.Given as goal

abbrev pub invariant-loop-signed : goal.invariant-loop-signed
invariant-loop-signed l =
    factors_are_small (amount l.a) (rest_of (map (λ p. (p.0, lin_part_tree p.1)) (drop l.signed-index l.rest)))
    ≡ factors_are_small (amount l.a) (rest_of (map (λ p. (p.0, lin_part_tree p.1)) l.rest))
