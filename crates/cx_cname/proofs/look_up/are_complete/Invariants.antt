use Rattle.std.proofs.Common.{◌≡◌, length, map}
use Rattle.std.specs.List.{list_all}
use Rattle.cx_ctree.specs.Decls.{member_tree}
use Rattle.cx_cname.specs.Known.{known_of, is_complete}
use Rattle.cx_cname.proofs.look_up.are_complete.Given as goal

abbrev pub invariant-loop-rest : goal.invariant-loop-rest
invariant-loop-rest l = list_all (λ m. is_complete (known_of l.known) m.ctype) (map member_tree l.rest) ≡ list_all (λ m. is_complete (known_of l.known) m.ctype) (map member_tree l.members)

abbrev pub decreases-loop-rest : goal.decreases-loop-rest
decreases-loop-rest l = length l.rest
