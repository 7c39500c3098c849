use Rattle.std.proofs.Common.{◌≡◌, ℕ, List, Option, map, drop}
use Rattle.std.specs.Prelude.{◌+ℤ◌}
use Rattle.cx_tsyn.specs.Lins.{lin_part_tree}
use Rattle.cx_tnumber.specs.Numbers.{total, rest_of}
use Rattle.cx_tnumber.specs.Sums.{summed}
use Rattle.cx_tnumber.proofs.sums.Sums.add_rest.Given as goal

abbrev pub invariant-loop-signed : goal.invariant-loop-signed
invariant-loop-signed l =
    (u : Option (List ℕ)) → total (rest_of (map (λ p. (p.0, lin_part_tree p.1)) (drop l.signed-index l.rest))) u +ℤ summed l.self u
    ≡ total (rest_of (map (λ p. (p.0, lin_part_tree p.1)) l.rest)) u +ℤ summed l.fn.self u
