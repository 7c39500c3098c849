use Rattle.std.proofs.Common.{◌≡◌, ◌≤◌, length}
use Rattle.cx_ctree.specs.Types.{type_tree}
use Rattle.cx_ctree.specs.Path.{type_path}
use Rattle.cx_cexpr.specs.Reading.{tail_at}
use Rattle.cx_cexpr.proofs.types.tail.Given as goal

abbrev pub invariant-loop-o : goal.invariant-loop-o
invariant-loop-o l = record {
  told : tail_at l.left (type_tree l.x.tree) l.x.past l.x.rest.now ≡ tail_at l.left (type_tree l.fn.x.tree) l.fn.x.past l.fn.x.rest.now;
  measured : l.x.height ≡ type_path (type_tree l.x.tree);
  low : l.x.height ≤ l.left;
}

abbrev pub decreases-loop-o : goal.decreases-loop-o
decreases-loop-o l = length l.x.rest.now
