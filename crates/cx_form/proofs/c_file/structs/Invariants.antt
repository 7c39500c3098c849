use Rattle.std.proofs.Common.{◌≡◌}
use Rattle.cx_form.specs.Reading.{struct_at, begins_struct, many_from, many}
use Rattle.cx_form.proofs.c_file.structs.Given as goal

abbrev pub invariant-loop-turns : goal.invariant-loop-turns
invariant-loop-turns l = many_from struct_at begins_struct l.turns l.all l.rest ≡ many struct_at begins_struct l.fn.tokens

abbrev pub decreases-loop-turns : goal.decreases-loop-turns
decreases-loop-turns l = l.turns
