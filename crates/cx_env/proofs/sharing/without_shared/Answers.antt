use Rattle.std.specs.Prelude.{◌≡◌, List}
use Rattle.std.proofs.Common.{subst, sym}
use Rattle.cx_cells.specs.declared.form.Form.{Form}
use Rattle.cx_state.specs.declared.state.Env.{Env}
use Rattle.cx_learn.proofs.Ends.{ok-with}
use Rattle.cx_env.specs.Others.{without_shared, StandsWithout}
use Rattle.cx_env.proofs.Changes.{without-shared, changes-stand}
use Rattle.cx_env.proofs.sharing.without_shared.Goals as goal

pub returns-clause-stands : goal.returns-clause-stands
returns-clause-stands c =
    ok-with c.without_by.result _ _ c.without_by.ensures
    (λ next e.
    let q : next ≡ without_shared c.args.rules.now.forms c.args.env = subst (λ (forms : List Form). next ≡ without_shared forms c.args.env) c.as_slice.ensures e in
    subst (λ (x : Env). StandsWithout c.args.rules.now.forms c.args.env x) (sym q) (without-shared c.args.rules.now.forms c.args.env))

pub returns-clause-after_changes : goal.returns-clause-after_changes
returns-clause-after_changes c = ok-with c.without_by.result _ _ c.without_by.ensures (λ next e. changes-stand c.args.rules.now.forms next)
