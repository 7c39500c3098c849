-- The sums of what the code asks to be a term.
use Rattle.std.specs.Prelude.{ℕ, ℤ, List, Option}
use Rattle.cx_tnumber.specs.Sums.{summed}
use Rattle.cx_tforms.specs.declared.amount.Amounts.{Amounts}
use Rattle.cx_tforms.specs.declared.amount.Amounts.TheVariants as m
use Rattle.cx_tforms.specs.Terms.{less, one_less}

abbrev pub amount : Amounts → Option (List ℕ) → ℤ
amount (m.Form a) = summed a.now
amount (m.Difference a b) = less (summed a.now) (summed b.now)
amount (m.OneLess a b) = one_less (less (summed a.now) (summed b.now))
