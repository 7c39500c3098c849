use Rattle.std.proofs.Common.{◌≡◌, length, false}
use Rattle.cx_lex.specs.Directives as spec
use Rattle.cx_lex.proofs.directive.after_blanks.Given as goal

abbrev pub decreases-loop-rest : goal.decreases-loop-rest
decreases-loop-rest l = length l.rest

abbrev pub invariant-loop-rest : goal.invariant-loop-rest
invariant-loop-rest l = spec.after_blanks l.inside l.mark l.rest ≡ spec.after_blanks false false l.line
