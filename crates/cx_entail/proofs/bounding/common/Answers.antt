use Rattle.cx_entail.proofs.GcdLaws.{gcd-le}
use Rattle.cx_entail.proofs.bounding.common.Goals as goal

pub returns-clause-small : goal.returns-clause-small
returns-clause-small c = rw c.gcd.ensures (gcd-le c.args.m c.args.n _ c.requires.first c.requires.second)
