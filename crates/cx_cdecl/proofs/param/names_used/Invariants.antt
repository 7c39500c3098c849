use Rattle.std.proofs.Common.{◌≡◌, ◌++◌, length}
use Rattle.cx_cdecl.specs.Declarations.{names_after, names_used}
use Rattle.cx_cdecl.proofs.param.names_used.Given as goal

abbrev pub decreases-each : goal.decreases-each
decreases-each l = length l.rest

abbrev pub invariant-each : goal.invariant-each
invariant-each l = l.names ++ names_after l.tagged l.rest ≡ names_used l.lexemes
