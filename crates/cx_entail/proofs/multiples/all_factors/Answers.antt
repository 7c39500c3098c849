use Rattle.std.proofs.Common.{◌^◌}
use Rattle.cx_term.proofs.Limits.{term-up_to}
use Rattle.cx_entail.proofs.FactorLaws.{first-small, second-small}
use Rattle.cx_entail.proofs.multiples.all_factors.Goals as goal

pub returns-clause-first : goal.returns-clause-first
returns-clause-first c = rw c.each_factors.ensures (first-small (2 ^ 32) c.args.g.now.parts c.args.t.now.parts (term-up_to c.args.g.now c.known-2.ensures) (term-up_to c.args.t.now c.known.ensures))

pub returns-clause-second : goal.returns-clause-second
returns-clause-second c = rw c.each_factors.ensures (second-small (2 ^ 32) c.args.g.now.parts c.args.t.now.parts (term-up_to c.args.g.now c.known-2.ensures) (term-up_to c.args.t.now c.known.ensures))
