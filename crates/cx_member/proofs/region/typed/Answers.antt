use Rattle.cx_member.proofs.Firsts.{typed_none, typed_some}
use Rattle.cx_member.proofs.region.typed.Goals as goal

pub returns-clause-none : goal.returns-clause-none
returns-clause-none c =
    typed_none c.args.rules.now.forms c.args.memory.now c.first_untyped.result c.memory_known.ensures c.first_untyped.ensures

pub returns-clause-some : goal.returns-clause-some
returns-clause-some c =
    typed_some c.args.rules.now.forms c.args.memory.now c.first_untyped.result c.first_untyped.ensures
