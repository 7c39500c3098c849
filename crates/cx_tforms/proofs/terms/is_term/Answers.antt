use Rattle.std.proofs.Common.{ap, ◌∙◌, length, rules}
use Rattle.cx_tsyn.specs.Lins.{lin_tree}
use Rattle.cx_tnumber.specs.Numbers.{parts_of}
use Rattle.cx_tforms.specs.Terms.{left_in}
use Rattle.cx_tforms.specs.Amounts.{amount}
use Rattle.cx_tforms.proofs.Symbols.{few_left_of_both}
use Rattle.cx_tforms.proofs.terms.is_term.Goals as goal

pub returns : goal.returns
returns c =
    let a = parts_of (lin_tree c.args.first.now) in
    let b = parts_of (lin_tree c.args.second.now) in
    few_left_of_both (amount c.args.a.now) a b c.len.result (search rules) (search rules) (search rules)
    (c.len.ensures ∙ ap length (c.in_ok-add_lin-2.ensures ∙ ap (λ v. left_in (amount c.args.a.now) v b) (c.in_ok-add_lin.ensures ∙ ap (λ v. left_in (amount c.args.a.now) v a) c.new-names.ensures)))
