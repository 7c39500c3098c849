use Rattle.std.proofs.Common.{◌≡◌, ◌++◌, map, drop}
use Rattle.cx_tsyn.specs.Lins.{lin_part_tree}
use Rattle.cx_flin.specs.Scopes.{scope_of}
use Rattle.cx_flin.specs.Terms.{rest_in}
use Rattle.cx_flin.proofs.lins.add_rest.Given as goal

abbrev pub invariant-loop-p : goal.invariant-loop-p
invariant-loop-p l =
    l.parts ++ rest_in (scope_of l.scope) l.minus (map (λ p. (p.0, lin_part_tree p.1)) (drop l.p-index l.rest))
    ≡ l.fn.parts ++ rest_in (scope_of l.scope) l.minus (map (λ p. (p.0, lin_part_tree p.1)) l.rest)
