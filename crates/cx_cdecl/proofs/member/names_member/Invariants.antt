use Rattle.std.proofs.Common.{◌≡◌, length, map}
use Rattle.cx_ctree.specs.Decls.{member_tree}
use Rattle.cx_cdecl.specs.Reading as spec
use Rattle.cx_cdecl.proofs.member.names_member.Given as goal

abbrev pub decreases-loop-rest : goal.decreases-loop-rest
decreases-loop-rest l = length l.rest

abbrev pub invariant-loop-rest : goal.invariant-loop-rest
invariant-loop-rest l = spec.names_member l.n (map member_tree l.rest) ≡ spec.names_member l.n (map member_tree l.members)
