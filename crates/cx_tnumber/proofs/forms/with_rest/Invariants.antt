use Rattle.std.proofs.Common.{◌≡◌, map, drop, Some}
use Rattle.std.specs.Prelude.{◌+ℤ◌}
use Rattle.cx_tsyn.specs.Lins.{lin_part_tree}
use Rattle.cx_tnumber.specs.Limits.{Overflows}
use Rattle.cx_tnumber.specs.Numbers.{total, rest_of}
use Rattle.cx_tnumber.proofs.forms.with_rest.Given as goal

abbrev pub invariant-loop-signed : goal.invariant-loop-signed
invariant-loop-signed l = record {
  sums : l.total +ℤ total (rest_of (map (λ p. (p.0, lin_part_tree p.1)) (drop l.signed-index l.rest))) (Some l.text)
      ≡ l.first +ℤ total (rest_of (map (λ p. (p.0, lin_part_tree p.1)) l.rest)) (Some l.text);
  passes : Overflows l.total (rest_of (map (λ p. (p.0, lin_part_tree p.1)) (drop l.signed-index l.rest))) (Some l.text)
      → Overflows l.first (rest_of (map (λ p. (p.0, lin_part_tree p.1)) l.rest)) (Some l.text);
}
