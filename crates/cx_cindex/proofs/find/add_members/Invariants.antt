use Rattle.std.proofs.Common.{◌≡◌, map, drop}
use Rattle.cx_ctree.specs.Decls.{member_tree}
use Rattle.cx_cindex.specs.Sets.{with_fields}
use Rattle.cx_cindex.specs.UnitNames.{fields_named}
use Rattle.cx_cindex.proofs.find.add_members.Given as goal

abbrev pub invariant-loop-member : goal.invariant-loop-member
invariant-loop-member l = with_fields l.fields (fields_named l.tag (map member_tree (drop l.member-index l.members))) ≡ with_fields l.fn.fields (fields_named l.tag (map member_tree l.members))
