use Rattle.std.proofs.Common.{◌≡◌, map, take}
use Rattle.cx_tsyn.specs.Lins.{lin_tree}
use Rattle.cx_flin.specs.Scopes.{scope_of}
use Rattle.cx_flin.specs.Terms.{flat_lin}
use Rattle.cx_flin.proofs.lins.terms.Given as goal

abbrev pub invariant-loop-lin : goal.invariant-loop-lin
invariant-loop-lin l = l.made ≡ map (λ x. flat_lin (scope_of l.scope) (lin_tree x)) (take l.lin-index l.lins)
