use Rattle.std.proofs.Common.{◌≡◌, length, false}
use Rattle.cx_lex.specs.Directives as spec
use Rattle.cx_lex.proofs.directive.leaves_comment.Given as goal

abbrev pub decreases-loop-rest : goal.decreases-loop-rest
decreases-loop-rest l = length l.rest

abbrev pub invariant-loop-rest : goal.invariant-loop-rest
invariant-loop-rest l = spec.leaves_comment l.inside l.star l.rest ≡ spec.leaves_comment false false l.line
