use Rattle.std.proofs.Common.{◌≡◌, length}
use Rattle.cx_form.specs.Rules.{are_distinct}
use Rattle.cx_form.proofs.rules.are_distinct.Given as goal

abbrev pub invariant-loop-x : goal.invariant-loop-x
invariant-loop-x g l = are_distinct g.T.Named.text l.rest ≡ are_distinct g.T.Named.text l.fn.items

abbrev pub decreases-loop-x : goal.decreases-loop-x
decreases-loop-x g l = length l.rest
