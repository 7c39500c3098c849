use Rattle.std.proofs.Common.{◌≡◌, map, drop}
use Rattle.cx_tsyn.specs.Lins.{relation_tree}
use Rattle.cx_tscope.specs.Faults.{first}
use Rattle.cx_tbinders.specs.Left.{left_in_relations}
use Rattle.cx_tbinders.proofs.left.left_in_relations.Given as goal

abbrev pub invariant-loop-relation : goal.invariant-loop-relation
invariant-loop-relation l = first (left_in_relations l.names l.n (map relation_tree (drop l.relation-index l.relations))) ≡ first (left_in_relations l.names l.n (map relation_tree l.relations))
