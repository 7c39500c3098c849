use Rattle.std.proofs.Common.{map, drop}
use Rattle.cx_ctree.specs.Decls.{tag_tree, member_tree}
use Rattle.cx_abi.specs.Fields.{field_tree}
use Rattle.cx_abi.proofs.Places.{Making}
use Rattle.cx_abi.proofs.placing.tag_fields.Given as goal

abbrev pub invariant-loop-m : goal.invariant-loop-m
invariant-loop-m l =
    Making (map tag_tree l.unit.tags) l.union_ (map member_tree l.members) (map member_tree (drop l.m-index l.members)) l.end (map field_tree l.fields)
