use Rattle.std.proofs.Common.{arith}
use Rattle.std.proofs.lemmas.Int.{ints}
use Rattle.cx_term.proofs.Exact.{exactly-same}
use Rattle.cx_term.proofs.term.Term.add.Goals as goal

pub returns-clause-exact : goal.returns-clause-exact
returns-clause-exact c = exactly-same _ _ c.plus_times.result (λ v. omega (arith, ints)) c.plus_times.ensures.exact
