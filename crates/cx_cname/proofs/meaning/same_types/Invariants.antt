use Rattle.std.proofs.Common.{◌≡◌, length, map}
use Rattle.cx_ctree.specs.Decls.{param_tree}
use Rattle.cx_cname.specs.Meanings.{same_types}
use Rattle.cx_cname.proofs.meaning.same_types.Given as goal

abbrev pub invariant-loop-rest : goal.invariant-loop-rest
invariant-loop-rest l = same_types (map (λ p. p.ctype) (map param_tree l.rest)) (map (λ p. p.ctype) (map param_tree l.others)) ≡ same_types (map (λ p. p.ctype) (map param_tree l.a)) (map (λ p. p.ctype) (map param_tree l.b))

abbrev pub decreases-loop-rest : goal.decreases-loop-rest
decreases-loop-rest l = length l.rest
