use Rattle.std.proofs.Common.{◌≡◌, map, drop}
use Rattle.cx_ctree.specs.Types.{type_tree}
use Rattle.cx_ctree.specs.Decls.{member_tree}
use Rattle.cx_ctable.specs.Firsts.{with_firsts}
use Rattle.cx_sfile.specs.Members.{types_of}
use Rattle.cx_sfile.proofs.members.add_members.Given as goal

abbrev pub invariant-loop-member : goal.invariant-loop-member
invariant-loop-member l =
    with_firsts (map (λ e. (e.0, type_tree e.1.now)) l.types.entries) (types_of (map member_tree (drop l.member-index l.members))) ≡ with_firsts (map (λ e. (e.0, type_tree e.1.now)) l.fn.types.entries) (types_of (map member_tree l.members))
