-- What a state becomes when a part of a region is opened: its binders get values, its conditions are learnt, and then its cells
-- are taken in order.
use Rattle.std.specs.Prelude.{ℕ, List, Result, Ok}
use Rattle.cx_term.specs.declared.term.Ineq.{Ineq}
use Rattle.cx_cells.specs.declared.form.Form.{Form}
use Rattle.cx_state.specs.declared.state.EnvFault.{EnvFault}
use Rattle.cx_learn.specs.Answers.{Answer, and_then}
use Rattle.cx_close.specs.Knowing.{Window}
use Rattle.cx_open.specs.Steps.{bind}
use Rattle.cx_open.specs.Naming.{bound}
use Rattle.cx_open.specs.Cells.{learnt_all, cells_opened}
use Rattle.cx_open.specs.declared.naming.Opening.{Opening}

-- the state in which the conditions and cells are true, for these values of the form's symbols
abbrev pub filled : List Form → Window → List Ineq → Opening → Answer
filled forms w conds o = and_then (learnt_all o.terms o.env conds) (λ next. cells_opened forms w o.terms next w.cells)

-- the same with the values
abbrev pub filled_with : List Form → Window → List Ineq → Opening → Result Opening EnvFault
filled_with forms w conds o = bind (filled forms w conds o) (λ next. Ok (record { env = next; terms = o.terms }))

-- a part of n binders, whose symbols come after those of the values
abbrev pub part_opened : List Form → Window → ℕ → List Ineq → Opening → Result Opening EnvFault
part_opened forms w n conds o = bind (bound n w o) (λ next. filled_with forms w conds next)
