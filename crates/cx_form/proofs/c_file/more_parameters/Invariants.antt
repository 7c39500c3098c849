use Rattle.std.proofs.Common.{◌≡◌, [], ◌∷◌, length, codes}
use Rattle.cx_form.specs.Reading.{next_parameter_at, next_has, many_from}
use Rattle.cx_form.proofs.c_file.more_parameters.Given as goal

abbrev pub invariant-loop-turns : goal.invariant-loop-turns
invariant-loop-turns l = many_from next_parameter_at (next_has (codes ",")) l.turns l.all l.rest ≡ many_from next_parameter_at (next_has (codes ",")) (length l.fn.tokens) (l.fn.first ∷ []) l.fn.tokens

abbrev pub decreases-loop-turns : goal.decreases-loop-turns
decreases-loop-turns l = l.turns
