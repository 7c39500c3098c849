use Rattle.std.proofs.Common.{◌≡◌, drop}
use Rattle.cx_close.specs.Knowing.{window}
use Rattle.cx_close.specs.Closing.{cells_shown}
use Rattle.cx_close.proofs.cells.cells_shown.Given as goal

abbrev pub invariant-loop-c : goal.invariant-loop-c
invariant-loop-c l = cells_shown l.env (window l.own l.s l.f l.start l.cells) l.values (drop l.c-index l.cells) ≡ cells_shown l.env (window l.own l.s l.f l.start l.cells) l.values l.cells
