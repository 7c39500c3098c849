use Rattle.std.proofs.Common.{◌≡◌, length, map}
use Rattle.std.specs.List.{list_any}
use Rattle.cx_ctree.specs.Decls.{decl_tree}
use Rattle.cx_cread.specs.Reads.{is_body_of}
use Rattle.cx_cread.proofs.body.some_body_of.Given as goal

abbrev pub invariant-loop-rest : goal.invariant-loop-rest
invariant-loop-rest l = list_any (is_body_of l.n) (map decl_tree l.rest) ≡ list_any (is_body_of l.n) (map decl_tree l.decls)

abbrev pub decreases-loop-rest : goal.decreases-loop-rest
decreases-loop-rest l = length l.rest
