use Rattle.std.proofs.Common.{◌≡◌}
use Rattle.cx_form.specs.Reading.{member_at, goes_on_members, many_from, many}
use Rattle.cx_form.proofs.c_file.members.Given as goal

abbrev pub invariant-loop-turns : goal.invariant-loop-turns
invariant-loop-turns l = many_from member_at goes_on_members l.turns l.all l.rest ≡ many member_at goes_on_members l.fn.tokens

abbrev pub decreases-loop-turns : goal.decreases-loop-turns
decreases-loop-turns l = l.turns
