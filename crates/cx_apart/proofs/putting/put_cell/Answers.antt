use Rattle.cx_learn.proofs.Learns.{agrees-ok}
use Rattle.cx_apart.specs.Putting.{put}
use Rattle.cx_apart.proofs.Stores.{put-stands}
use Rattle.cx_apart.proofs.putting.put_cell.Goals as goal

pub returns-clause-sound : goal.returns-clause-sound
returns-clause-sound c = agrees-ok c.put_by.result (put c.args.env c.args.c) _ c.put_by.ensures (λ next e. put-stands c.args.env c.args.c next e)
