use Rattle.std.proofs.Common.{◌≡◌, map, drop}
use Rattle.cx_tsyn.specs.Lins.{lin_part_tree}
use Rattle.cx_tnumber.specs.Numbers.{rest_of}
use Rattle.cx_tforms.specs.Terms.{left_in}
use Rattle.cx_tforms.specs.Amounts.{amount}
use Rattle.cx_tforms.proofs.terms.add_rest.Given as goal

abbrev pub invariant-loop-signed : goal.invariant-loop-signed
invariant-loop-signed l =
    left_in (amount l.a) l.names (rest_of (map (λ p. (p.0, lin_part_tree p.1)) (drop l.signed-index l.rest)))
    ≡ left_in (amount l.a) l.fn.names (rest_of (map (λ p. (p.0, lin_part_tree p.1)) l.rest))
