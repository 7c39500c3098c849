-- Integer types of equal size and sign are equal.
use Rattle.std.proofs.Common.{◌≡◌}
use mathlib.Core.HLevel.{is_prop→PathP}
use mathlib.Core.Bool.{Bool-set}
use Rattle.cx_base.specs.Number.{HasSize}
use Rattle.cx_base.specs.declared.number.CInt.{CInt}

pub number_same : (a b : CInt) → a.size ≡ b.size → a.signed ≡ b.signed → a ≡ b
number_same a b p q = λ i. record {
  size = p i;
  signed = q i;
  known = is_prop→PathP (λ j. HasSize (p j)) (λ j. hlevel Bool-set) a.known b.known i;
}
