use Rattle.std.proofs.Common.{◌≡◌, Bool, subst}
use Rattle.std.specs.Prelude.{IfOk}
use Rattle.cx_tsyn.specs.Lins.{lin_tree}
use Rattle.cx_tnumber.specs.Sums.{summed}
use Rattle.cx_tforms.proofs.Symbols.{term_of}
use Rattle.cx_tforms.proofs.terms.lin_is_term.Goals as goal

pub returns : goal.returns
returns c =
    let given : Bool → Type 0 = λ v. IfOk c.form_is_term.result (λ b. b ≡ v) in
    subst given (term_of (summed c.in_ok-sums.sums) (lin_tree c.args.lin.now) c.in_ok-sums.ensures) c.form_is_term.ensures
