use Rattle.std.proofs.Common.{◌≡◌, take}
use Rattle.cx_apart.specs.Putting.{apart_from}
use Rattle.cx_apart.proofs.putting.apart_from.Given as goal

abbrev pub invariant-loop-c : goal.invariant-loop-c
invariant-loop-c l = l.kept ≡ apart_from l.env l.a (take l.c-index l.c-items)
