use Rattle.std.specs.Prelude.{◌≤◌, ◌+◌, ◌≡◌, length, List, Some}
use Rattle.std.proofs.Common.{sym, ap, ◌∙◌}
use Rattle.cx_term.specs.Forms.{Linear}
use Rattle.cx_cells.specs.declared.form.CaseBranch.{CaseBranch}
use Rattle.cx_head.specs.Branches.{only_possible}
use Rattle.cx_head.proofs.Few.{only-kept}
use Rattle.cx_head.proofs.branches.open_cases.Goals as goal

pub open_branch-requires : goal.open_branch-requires
open_branch-requires c =
    let e : only_possible c.args.o.env c.args.o.terms c.args.form.now.cases ≡ Some c.in-Some.b.now = sym (c.in-Some.ensures ∙ ap (λ (ts : List Linear). only_possible c.args.o.env ts c.as_slice-2.result.now) c.as_slice.ensures ∙ ap (λ (bs : List CaseBranch). only_possible c.args.o.env c.args.o.terms bs) c.as_slice-2.ensures) in
    record { few = only-kept (λ b. length c.args.o.terms + b.part.binders ≤ 40) c.args.o.env c.args.o.terms c.args.form.now.cases c.in-Some.b.now c.requires.few e }
