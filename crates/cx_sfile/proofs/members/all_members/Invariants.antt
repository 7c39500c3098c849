use Rattle.std.proofs.Common.{◌≡◌, [], map, take}
use Rattle.cx_ctree.specs.Types.{type_tree}
use Rattle.cx_ctree.specs.Decls.{tag_tree}
use Rattle.cx_ctable.specs.Firsts.{with_firsts}
use Rattle.cx_sfile.specs.Members.{members_in}
use Rattle.cx_sfile.proofs.members.all_members.Given as goal

abbrev pub invariant-loop-tag : goal.invariant-loop-tag
invariant-loop-tag l =
    map (λ m. map (λ e. (e.0, type_tree e.1.now)) m.entries) l.all ≡ map (λ t. with_firsts [] (members_in t)) (map tag_tree (take l.tag-index l.tags))
