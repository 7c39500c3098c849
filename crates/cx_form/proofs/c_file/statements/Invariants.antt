use Rattle.std.proofs.Common.{◌≡◌}
use Rattle.cx_form.specs.Reading.{statement_at, next_names, many_from, many}
use Rattle.cx_form.proofs.c_file.statements.Given as goal

abbrev pub invariant-loop-turns : goal.invariant-loop-turns
invariant-loop-turns l = many_from statement_at next_names l.turns l.all l.rest ≡ many statement_at next_names l.fn.tokens

abbrev pub decreases-loop-turns : goal.decreases-loop-turns
decreases-loop-turns l = l.turns
