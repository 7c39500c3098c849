use Rattle.std.proofs.Common.{ℕ, ◌<◌, ◌≤◌}
use Rattle.std.specs.Prelude.{IsTrue, IfSome, IsSomeAnd, slice_get}
use Rattle.cx_cells.specs.Symbols.{telling_cell}
use Rattle.cx_cells.specs.Kept.{cases_name}
use Rattle.cx_cells.proofs.kept.forms.told_before_cases.Given as goal

abbrev pub invariant-loop-s : goal.invariant-loop-s
invariant-loop-s l =
    (t : ℕ) → l.form.params ≤ t → t < l.s → IsTrue (cases_name t l.form.cases)
    → IfSome (telling_cell t l.form.head) (λ w. IsSomeAnd (slice_get l.form.head w.0) (λ c. c.at < l.form.cases_at))
