use Rattle.std.proofs.Common.{◌≡◌, length, map}
use Rattle.std.specs.Prelude.{◌==◌, find}
use Rattle.cx_ctree.specs.Decls.{member_tree}
use Rattle.cx_tmeasure.proofs.known.found_in.Given as goal

abbrev pub invariant-loop-rest : goal.invariant-loop-rest
invariant-loop-rest l = find (λ m. m.name == l.n) (map member_tree l.rest) ≡ find (λ m. m.name == l.n) (map member_tree l.members)

abbrev pub decreases-loop-rest : goal.decreases-loop-rest
decreases-loop-rest l = length l.rest
