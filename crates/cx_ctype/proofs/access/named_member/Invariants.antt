use Rattle.std.proofs.Common.{◌≡◌, map, length}
use Rattle.cx_ctree.specs.Decls.{member_tree}
use Rattle.cx_ctype.specs.Accesses.{named_member}
use Rattle.cx_ctype.proofs.access.named_member.Given as goal

abbrev pub invariant-loop-rest : goal.invariant-loop-rest
invariant-loop-rest l = named_member l.name (map member_tree l.rest) ≡ named_member l.name (map member_tree l.members)

abbrev pub decreases-loop-rest : goal.decreases-loop-rest
decreases-loop-rest l = length l.rest
