use Rattle.std.proofs.Common.{◌≡◌, []}
use Rattle.cx_cname.specs.Known.{known_of}
use Rattle.cx_cdecl.specs.Reading.{sizes_at}
use Rattle.cx_cdecl.proofs.declarator.sizes.Given as goal

abbrev pub decreases-each : goal.decreases-each
decreases-each l = l.left

abbrev pub invariant-each : goal.invariant-each
invariant-each l = sizes_at l.turns (known_of l.known) l.left l.sizes l.rest ≡ sizes_at l.turns (known_of l.known) l.limit [] l.fn.lexemes
