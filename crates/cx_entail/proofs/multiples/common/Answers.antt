use Rattle.std.proofs.Common.{arith}
use Rattle.std.proofs.lemmas.Nat.Gcd.{le_of_dvd}
use Rattle.cx_entail.proofs.GcdLaws.{gcd-is, gcd-positive}
use Rattle.cx_entail.proofs.multiples.common.Goals as goal

pub overflow_cast-result : goal.overflow_cast-result
overflow_cast-result c = omega (arith, c.gcd.ensures, c.from.ensures, le_of_dvd (omega (arith, c.from.ensures, c.requires)) (gcd-is c.from.result c.from-2.result).0)

pub returns-clause-positive : goal.returns-clause-positive
returns-clause-positive c = omega (arith, c.gcd.ensures, gcd-positive c.from.result c.from-2.result (omega (arith, c.from.ensures, c.requires)))
