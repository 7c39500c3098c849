use Rattle.std.proofs.Common.{subst, sym}
use Rattle.cx_state.specs.declared.state.Env.{Env}
use Rattle.cx_learn.proofs.Ends.{ok-with}
use Rattle.cx_apart.specs.Putting.{DropStands}
use Rattle.cx_apart.proofs.Stores.{drop-stands}
use Rattle.cx_apart.proofs.putting.drop_spot.Goals as goal

pub returns-clause-sound : goal.returns-clause-sound
returns-clause-sound c = ok-with c.dropped.result _ _ c.dropped.ensures (λ next e. subst (λ (x : Env). DropStands c.args.env c.args.a.now x) (sym e) (drop-stands c.args.env c.args.a.now))
