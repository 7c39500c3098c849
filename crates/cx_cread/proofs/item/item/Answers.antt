use Rattle.cx_ctree.specs.Units.{unit_tree}
use Rattle.cx_cread.specs.Reads.{declares_item}
use Rattle.cx_cread.proofs.Steps.{defined_step}
use Rattle.cx_cread.proofs.item.item.Goals as goal

pub returns-in-Some-clause-some : goal.returns-in-Some-clause-some
returns-in-Some-clause-some c = declares_item (rw c.in-Some.is at c.in_ok-declared.ensures.some)

pub returns-in_ok-with_body-in-Some-2-clause-some : goal.returns-in_ok-with_body-in-Some-2-clause-some
returns-in_ok-with_body-in-Some-2-clause-some c =
    let same = rw c.in-None.is at c.in_ok-declared.ensures.unchanged in
    let is = rw c.in-Some-2.is at c.in_ok-function-in-None.ensures.some in
    defined_step (unit_tree c.args.known.now) (unit_tree c.declaration.new.known) same is c.in_ok-with_body-in-Some-2.ensures
