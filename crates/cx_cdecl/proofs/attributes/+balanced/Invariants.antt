use Rattle.std.proofs.Common.{◌≡◌, ◌≤◌}
use Rattle.cx_cdecl.specs.Reading.{balanced_at}
use Rattle.cx_cdecl.proofs.attributes.+balanced.Given as goal

abbrev pub decreases-balanced : goal.decreases-balanced
decreases-balanced l = l.turns

abbrev pub decreases-each : goal.decreases-each
decreases-each l = l.n

abbrev pub invariant-each : goal.invariant-each
invariant-each l = record {
  told : balanced_at l.n l.rest ≡ balanced_at l.turns l.fn.lexemes;
  within : l.n ≤ l.turns;
}
