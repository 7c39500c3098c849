use Rattle.std.proofs.Common.{◌≡◌, length, map}
use Rattle.std.specs.List.{list_any}
use Rattle.cx_ctree.specs.Decls.{item_tree}
use Rattle.cx_cname.specs.Known.{declared_by}
use Rattle.cx_cread.specs.Reads.{is_body_of}
use Rattle.cx_cread.proofs.body.has_body.Given as goal

abbrev pub invariant-loop-rest : goal.invariant-loop-rest
invariant-loop-rest l = list_any (is_body_of l.n) (declared_by (map item_tree l.rest)) ≡ list_any (is_body_of l.n) (declared_by (map item_tree l.items))

abbrev pub decreases-loop-rest : goal.decreases-loop-rest
decreases-loop-rest l = length l.rest
