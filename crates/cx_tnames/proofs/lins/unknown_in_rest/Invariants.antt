use Rattle.std.proofs.Common.{◌≡◌, map, drop}
use Rattle.cx_tsyn.specs.Lins.{lin_part_tree}
use Rattle.cx_tscope.specs.Faults.{first}
use Rattle.cx_tnames.specs.Unknown.{unknown_in_rest}
use Rattle.cx_tnames.proofs.lins.unknown_in_rest.Given as goal

abbrev pub invariant-loop-signed : goal.invariant-loop-signed
invariant-loop-signed l =
    first (unknown_in_rest l.names (map (λ p. (p.0, lin_part_tree p.1)) (drop l.signed-index l.rest)))
    ≡ first (unknown_in_rest l.names (map (λ p. (p.0, lin_part_tree p.1)) l.rest))
