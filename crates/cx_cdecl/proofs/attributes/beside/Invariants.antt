use Rattle.std.proofs.Common.{◌≡◌}
use Rattle.cx_cdecl.specs.Reading.{said_tree, beside_at}
use Rattle.cx_cdecl.proofs.attributes.beside.Given as goal

abbrev pub decreases-each : goal.decreases-each
decreases-each l = l.n

abbrev pub invariant-each : goal.invariant-each
invariant-each l = beside_at l.turns l.lists l.n (said_tree l.read.said) l.read.rest.now ≡ beside_at l.turns l.lists l.turns (said_tree l.fn.said) l.fn.lexemes
