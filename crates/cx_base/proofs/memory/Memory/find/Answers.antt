use Rattle.std.proofs.Common.{subst, rules}
use Rattle.std.specs.Prelude.{slice_get, IsSomeAnd}
use Rattle.cx_base.specs.Memory.{Valid, Holds}
use Rattle.cx_base.proofs.Finding.{only_holder}
use Rattle.cx_base.proofs.memory.Memory.find.Goals as goal

pub returns-clause-only : goal.returns-clause-only
returns-clause-only c =
    let valid = subst Valid c.self.view_is c.self.invariant in
    let found : IsSomeAnd (slice_get c.args.self.now c.in_ok-i.i) (λ r. Holds r c.args.a c.args.k) = search rules in
    λ j h. only_holder c.args.self.now c.in_ok-i.i j c.args.a c.args.k valid c.requires found h
