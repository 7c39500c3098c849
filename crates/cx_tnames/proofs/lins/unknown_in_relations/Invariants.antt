use Rattle.std.proofs.Common.{◌≡◌, map, drop}
use Rattle.cx_tsyn.specs.Lins.{relation_tree}
use Rattle.cx_tscope.specs.Faults.{first}
use Rattle.cx_tnames.specs.Unknown.{unknown_in_relations}
use Rattle.cx_tnames.proofs.lins.unknown_in_relations.Given as goal

abbrev pub invariant-loop-relation : goal.invariant-loop-relation
invariant-loop-relation l = first (unknown_in_relations l.names (map relation_tree (drop l.relation-index l.relations))) ≡ first (unknown_in_relations l.names (map relation_tree l.relations))
