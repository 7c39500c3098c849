use Rattle.std.proofs.Common.{◌≡◌}
use Rattle.cx_form.specs.Reading.{cell_at, next_names, many_from, many}
use Rattle.cx_form.proofs.type_file.cells.Given as goal

abbrev pub invariant-loop-turns : goal.invariant-loop-turns
invariant-loop-turns l = many_from cell_at next_names l.turns l.all l.rest ≡ many cell_at next_names l.fn.tokens

abbrev pub decreases-loop-turns : goal.decreases-loop-turns
decreases-loop-turns l = l.turns
