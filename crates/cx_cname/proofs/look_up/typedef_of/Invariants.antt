use Rattle.std.proofs.Common.{◌≡◌, map, length}
use Rattle.cx_ctree.specs.Types.{type_tree}
use Rattle.cx_cname.specs.Known.{value_of}
use Rattle.cx_cname.proofs.look_up.typedef_of.Given as goal

abbrev pub invariant-loop-entries : goal.invariant-loop-entries
invariant-loop-entries l = value_of l.n (map (λ t. (t.0, type_tree t.1)) l.entries) ≡ value_of l.n (map (λ t. (t.0, type_tree t.1)) l.initial.entries)

abbrev pub decreases-loop-entries : goal.decreases-loop-entries
decreases-loop-entries l = length l.entries
