use Rattle.cx_world.proofs.Changes.{only_shared_change}
use Rattle.cx_world.proofs.law.only_shared_change.Goals as goal

pub returns : goal.returns
returns c = record { nothing = only_shared_change }
