use Rattle.std.proofs.Common.{◌≡◌, map, drop}
use Rattle.cx_tsyn.specs.Lins.{lin_part_tree}
use Rattle.cx_tscope.specs.Faults.{first}
use Rattle.cx_tnumber.specs.Sums.{summed}
use Rattle.cx_tbinders.specs.Left.{left_in_rest}
use Rattle.cx_tbinders.proofs.left.left_in_rest.Given as goal

abbrev pub invariant-loop-signed : goal.invariant-loop-signed
invariant-loop-signed l =
    first (left_in_rest l.names l.n (summed l.sums) (map (λ p. (p.0, lin_part_tree p.1)) (drop l.signed-index l.rest)))
    ≡ first (left_in_rest l.names l.n (summed l.sums) (map (λ p. (p.0, lin_part_tree p.1)) l.rest))
