use Rattle.std.proofs.Common.{◌≡◌, length, map}
use Rattle.cx_ctree.specs.Decls.{decl_tree}
use Rattle.cx_cname.specs.Meanings.{found}
use Rattle.cx_sname.proofs.meaning.found_in.Given as goal

abbrev pub invariant-loop-rest : goal.invariant-loop-rest
invariant-loop-rest l = found l.n (map decl_tree l.rest) ≡ found l.n (map decl_tree l.decls)

abbrev pub decreases-loop-rest : goal.decreases-loop-rest
decreases-loop-rest l = length l.rest
