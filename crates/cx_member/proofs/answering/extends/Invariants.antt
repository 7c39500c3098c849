use Rattle.std.proofs.Common.{◌≡◌, take}
use Rattle.cx_cells.specs.Layouts.{layout_of}
use Rattle.cx_member.proofs.answering.extends.Given as goal

abbrev pub invariant-loop-i : goal.invariant-loop-i
invariant-loop-i l = take l.i (layout_of l.after) ≡ take l.i (layout_of l.before)
