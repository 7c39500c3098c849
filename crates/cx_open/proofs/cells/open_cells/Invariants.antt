use Rattle.std.proofs.Common.{◌≡◌, drop}
use Rattle.std.specs.Prelude.{None, []}
use Rattle.cx_close.specs.Knowing.{window}
use Rattle.cx_open.specs.Cells.{cells_opened}
use Rattle.cx_open.proofs.cells.open_cells.Given as goal

abbrev pub invariant-loop-c : goal.invariant-loop-c
invariant-loop-c l = cells_opened l.rules.forms (window None l.s l.f l.start []) l.values l.env (drop l.c-index l.cells) ≡ cells_opened l.rules.forms (window None l.s l.f l.start []) l.values l.fn.env l.cells
