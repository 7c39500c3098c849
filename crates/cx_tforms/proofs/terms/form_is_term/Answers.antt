use Rattle.std.proofs.Common.{ap, ◌∙◌, length, rules}
use Rattle.cx_tsyn.specs.Lins.{lin_tree}
use Rattle.cx_tnumber.specs.Numbers.{parts_of}
use Rattle.cx_tforms.specs.Terms.{left_in}
use Rattle.cx_tforms.specs.Amounts.{amount}
use Rattle.cx_tforms.proofs.Symbols.{few_left}
use Rattle.cx_tforms.proofs.terms.form_is_term.Goals as goal

pub returns : goal.returns
returns c =
    let parts = parts_of (lin_tree c.args.lin.now) in
    few_left (amount c.args.a.now) parts c.len.result (search rules) (search rules)
    (c.len.ensures ∙ ap length (c.in_ok-add_lin.ensures ∙ ap (λ v. left_in (amount c.args.a.now) v parts) c.new-names.ensures))
