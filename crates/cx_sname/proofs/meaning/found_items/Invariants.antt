use Rattle.std.proofs.Common.{◌≡◌, length, map}
use Rattle.cx_ctree.specs.Decls.{item_tree}
use Rattle.cx_cname.specs.Known.{declared_by}
use Rattle.cx_cname.specs.Meanings.{found}
use Rattle.cx_sname.proofs.meaning.found_items.Given as goal

abbrev pub invariant-loop-rest : goal.invariant-loop-rest
invariant-loop-rest l = found l.n (declared_by (map item_tree l.rest)) ≡ found l.n (declared_by (map item_tree l.items))

abbrev pub decreases-loop-rest : goal.decreases-loop-rest
decreases-loop-rest l = length l.rest
