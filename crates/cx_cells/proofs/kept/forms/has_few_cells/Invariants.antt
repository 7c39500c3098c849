use Rattle.std.proofs.Common.{◌≡◌, ◌+◌, ◌≤◌, length, take}
use Rattle.std.specs.Prelude.{sum_by}
use Rattle.cx_cells.proofs.kept.forms.has_few_cells.Given as goal

abbrev pub invariant-loop-b : goal.invariant-loop-b
invariant-loop-b l = (l.count ≤ 1024) × (l.count ≡ length l.form.head + sum_by (λ b. length b.part.cells) (take l.b-index l.form.cases))
