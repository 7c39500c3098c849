use Rattle.std.proofs.Common.{◌≡◌, drop}
use Rattle.cx_head.specs.Staged.{aliased}
use Rattle.cx_head.proofs.opening.first_aliased.Given as goal

abbrev pub invariant-loop-t : goal.invariant-loop-t
invariant-loop-t l = aliased l.env l.s (drop l.t-index l.staged) ≡ aliased l.env l.s l.staged
