use Rattle.std.proofs.Common.{◌≡◌, take}
use Rattle.cx_cells.proofs.kept.texts.texts_differ.Given as goal

abbrev pub invariant-loop-i : goal.invariant-loop-i
invariant-loop-i l = l.names ≡ take l.i l.texts
