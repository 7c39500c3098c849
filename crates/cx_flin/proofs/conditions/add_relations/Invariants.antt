use Rattle.std.proofs.Common.{◌≡◌, ◌++◌, map, drop}
use Rattle.cx_tsyn.specs.Lins.{relation_tree}
use Rattle.cx_flin.specs.Scopes.{scope_of}
use Rattle.cx_flin.specs.Terms.{flat_relations}
use Rattle.cx_flin.proofs.conditions.add_relations.Given as goal

abbrev pub invariant-loop-r : goal.invariant-loop-r
invariant-loop-r l =
    l.conds ++ flat_relations (scope_of l.scope) (map relation_tree (drop l.r-index l.relations))
    ≡ l.fn.conds ++ flat_relations (scope_of l.scope) (map relation_tree l.relations)
