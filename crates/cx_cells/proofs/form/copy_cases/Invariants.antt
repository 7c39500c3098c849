use Rattle.std.proofs.Common.{◌≡◌, take}
use Rattle.cx_cells.proofs.form.copy_cases.Given as goal

abbrev pub invariant-loop-b : goal.invariant-loop-b
invariant-loop-b l = l.copy ≡ take l.b-index l.cases
