use Rattle.std.proofs.Common.{◌≡◌, length, map}
use Rattle.cx_ctree.specs.Decls.{member_tree}
use Rattle.cx_cdecl.specs.Reading as spec
use Rattle.cx_cdecl.proofs.member.are_distinct.Given as goal

abbrev pub decreases-loop-rest : goal.decreases-loop-rest
decreases-loop-rest l = length l.rest

abbrev pub invariant-loop-rest : goal.invariant-loop-rest
invariant-loop-rest l = spec.are_distinct (map member_tree l.rest) ≡ spec.are_distinct (map member_tree l.members)
