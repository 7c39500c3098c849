use Rattle.std.proofs.Common.{◌≡◌, map, drop}
use Rattle.cx_tsyn.specs.Lins.{relation_tree}
use Rattle.cx_tscope.specs.Faults.{first}
use Rattle.cx_tforms.specs.Faulty.{faulty_relations}
use Rattle.cx_tforms.proofs.forms.faulty_relations.Given as goal

abbrev pub invariant-loop-relation : goal.invariant-loop-relation
invariant-loop-relation l = first (faulty_relations (map relation_tree (drop l.relation-index l.relations))) ≡ first (faulty_relations (map relation_tree l.relations))
