use Rattle.std.proofs.Common.{refl}
use Rattle.cx_ctree.specs.Units.{unit_tree}
use Rattle.cx_cread.proofs.Steps.{known_step}
use Rattle.cx_cread.proofs.unit.read_item.Goals as goal

pub returns-in-Some-clause-takes : goal.returns-in-Some-clause-takes
returns-in-Some-clause-takes c =
    let is = rw c.in-Some.is at c.in_ok-declared.ensures.some in
    known_step c.args.bytes.now c.args.lexemes.now (unit_tree c.args.unit.now) (unit_tree c.item.new.known) c.in-Some.declared c.item.new.known.items c.push.new.self c.push.result is c.item.ensures.kept refl c.push.ensures.ok
