use Rattle.std.proofs.Common.{◌≡◌, map, subst, rules}
use Rattle.std.specs.Prelude.{ℤ, ◌+ℤ◌, IfOk}
use Rattle.cx_tsyn.specs.Words.{word_tree}
use Rattle.cx_tsyn.specs.Lins.{lin_tree}
use Rattle.cx_tnumber.specs.Sums.{summed}
use Rattle.cx_tsizes.proofs.Forms.{form_told}
use Rattle.cx_tsizes.proofs.values.form_value.Goals as goal

pub returns : goal.returns
returns c =
    let told : IfOk c.sum.result (λ z. z ≡ c.number.result +ℤ c.in_ok-symbols.symbols) = search rules in
    subst (λ (x : ℤ). IfOk c.sum.result (λ z. z ≡ x))
    (form_told (summed c.in_ok-sums.sums) (lin_tree c.args.lin.now) (map word_tree c.args.params.now) c.args.args.now c.number.result c.in_ok-symbols.symbols c.in_ok-sums.ensures c.number.ensures c.in_ok-symbols.ensures)
    told
