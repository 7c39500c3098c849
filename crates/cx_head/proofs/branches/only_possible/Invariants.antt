use Rattle.std.proofs.Common.{◌≡◌, drop}
use Rattle.cx_head.specs.Branches.{only_possible}
use Rattle.cx_head.proofs.branches.only_possible.Given as goal

abbrev pub invariant-loop-i : goal.invariant-loop-i
invariant-loop-i l = only_possible l.env l.values (drop l.i l.cases) ≡ only_possible l.env l.values l.cases
