use Rattle.std.proofs.Common.{◌≡◌, codes}
use Rattle.cx_form.specs.Reading.{region_at, next_has, many_from, many}
use Rattle.cx_form.proofs.type_file.regions.Given as goal

abbrev pub invariant-loop-turns : goal.invariant-loop-turns
invariant-loop-turns l = many_from region_at (next_has (codes "region")) l.turns l.all l.rest ≡ many region_at (next_has (codes "region")) l.fn.tokens

abbrev pub decreases-loop-turns : goal.decreases-loop-turns
decreases-loop-turns l = l.turns
