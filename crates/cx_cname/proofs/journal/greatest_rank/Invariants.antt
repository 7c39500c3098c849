use Rattle.std.proofs.Common.{◌≡◌, length, map, max}
use Rattle.cx_ctree.specs.Decls.{tag_tree}
use Rattle.cx_ctree.specs.Path.{greatest}
use Rattle.cx_cname.proofs.journal.greatest_rank.Given as goal

abbrev pub invariant-loop-rest : goal.invariant-loop-rest
invariant-loop-rest l = max l.most (greatest (λ t. t.rank) (map tag_tree l.rest)) ≡ greatest (λ t. t.rank) (map tag_tree l.tags)

abbrev pub decreases-loop-rest : goal.decreases-loop-rest
decreases-loop-rest l = length l.rest
