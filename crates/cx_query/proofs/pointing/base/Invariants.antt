use Rattle.std.proofs.Common.{◌≡◌, drop}
use Rattle.cx_query.specs.Pointing.{base_in}
use Rattle.cx_query.proofs.pointing.base.Given as goal

abbrev pub invariant-loop-p : goal.invariant-loop-p
invariant-loop-p l = base_in l.env.facts (drop l.p-index l.p-items) ≡ base_in l.env.facts l.p-items
