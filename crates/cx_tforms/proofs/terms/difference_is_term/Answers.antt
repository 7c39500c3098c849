use Rattle.std.proofs.Common.{◌≡◌, ◌++◌, Bool, sym, ◌∙◌, subst, rules, refl}
use Rattle.std.specs.Prelude.{IfOk}
use Rattle.cx_tsyn.specs.Lins.{lin_tree}
use Rattle.cx_tnumber.specs.Numbers.{parts_of, sum_of}
use Rattle.cx_tnumber.specs.Sums.{summed}
use Rattle.cx_tforms.specs.Terms.{is_term, less, one_less}
use Rattle.cx_tforms.proofs.Symbols.{difference_of, one_less_of, first_fails, second_decides}
use Rattle.cx_tforms.proofs.terms.difference_is_term.Goals as goal

pub returns-then-not-branch : goal.returns-then-not-branch
returns-then-not-branch c =
    let l = lin_tree c.args.first.now in
    let r = lin_tree c.args.second.now in
    first_fails (is_term (less (sum_of l) (sum_of r)) (parts_of l ++ parts_of r)) (is_term (one_less (less (sum_of l) (sum_of r))) (parts_of l ++ parts_of r)) c.in_ok-is_term.field-0
    (sym (difference_of (summed c.in_ok-a.a) (summed c.in_ok-b.b) l r c.in_ok-a.ensures c.in_ok-b.ensures) ∙ sym c.in_ok-is_term.ensures)
    (search rules)

pub returns : goal.returns
returns c =
    let l = lin_tree c.args.first.now in
    let r = lin_tree c.args.second.now in
    let given : Bool → Type 0 = λ v. IfOk c.is_term-2.result (λ b. b ≡ v) in
    let last = is_term (one_less (less (sum_of l) (sum_of r))) (parts_of l ++ parts_of r) in
    subst given
    (one_less_of (summed c.in_ok-a.a) (summed c.in_ok-b.b) l r c.in_ok-a.ensures c.in_ok-b.ensures
    ∙ second_decides (is_term (less (sum_of l) (sum_of r)) (parts_of l ++ parts_of r)) last c.in_ok-is_term.field-0 last
    (sym (difference_of (summed c.in_ok-a.a) (summed c.in_ok-b.b) l r c.in_ok-a.ensures c.in_ok-b.ensures) ∙ sym c.in_ok-is_term.ensures)
    (search rules) refl)
    c.is_term-2.ensures
