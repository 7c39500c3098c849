use Rattle.std.proofs.Common.{◌≡◌, drop}
use Rattle.cx_close.specs.Closing.{conds_shown}
use Rattle.cx_close.proofs.cells.conds_shown.Given as goal

abbrev pub invariant-loop-c : goal.invariant-loop-c
invariant-loop-c l = conds_shown l.env l.values (drop l.c-index l.conds) ≡ conds_shown l.env l.values l.conds
