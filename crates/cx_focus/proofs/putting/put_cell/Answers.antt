use Rattle.cx_apart.specs.Putting.{put}
use Rattle.cx_apart.proofs.Stores.{put-stands}
use Rattle.cx_focus.proofs.Answered.{gives-ok, answer-ok}
use Rattle.cx_focus.proofs.Put.{put-valid}
use Rattle.cx_focus.proofs.putting.put_cell.Goals as goal

pub returns-clause-sound : goal.returns-clause-sound
returns-clause-sound c = gives-ok c.put_copy.result _ _ c.put_copy.ensures (λ next e. put-stands c.args.env.now c.args.cell next (answer-ok (put c.args.env.now c.args.cell) next e))

pub returns-clause-valid : goal.returns-clause-valid
returns-clause-valid c = gives-ok c.put_copy.result _ _ c.put_copy.ensures (λ next e. put-valid c.args.env.now c.args.cell next (answer-ok (put c.args.env.now c.args.cell) next e))
