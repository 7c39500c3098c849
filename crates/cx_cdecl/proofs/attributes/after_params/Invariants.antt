use Rattle.std.proofs.Common.{◌≡◌}
use Rattle.cx_cdecl.specs.Reading.{after_at}
use Rattle.cx_cdecl.proofs.attributes.after_params.Given as goal

abbrev pub decreases-each : goal.decreases-each
decreases-each l = l.n

abbrev pub invariant-each : goal.invariant-each
invariant-each l = after_at l.turns l.n l.rest ≡ after_at l.turns l.turns l.fn.lexemes
