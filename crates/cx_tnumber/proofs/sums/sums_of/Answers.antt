use Rattle.std.proofs.Common.{ap, ◌∙◌, map}
use Rattle.std.specs.Prelude.{◌+ℤ◌}
use Rattle.cx_tsyn.specs.Lins.{lin_part_tree}
use Rattle.cx_tnumber.specs.Numbers.{total, rest_of}
use Rattle.cx_tnumber.specs.Sums.{summed}
use Rattle.cx_tnumber.proofs.Symbols.{joined}
use Rattle.cx_tnumber.proofs.sums.sums_of.Goals as goal

pub returns : goal.returns
returns c u =
    joined _ _ _ _ _
    (c.in_ok-add_rest.ensures u ∙ ap (λ ps. total (rest_of (map (λ p. (p.0, lin_part_tree p.1)) ps)) u +ℤ summed c.add.new.self u) c.as_slice.ensures)
    (c.in_ok-add.ensures u) (c.new-sums.ensures u)
