use Rattle.std.proofs.Common.{◌≡◌, ◌≤◌, length, take}
use Rattle.cx_ctree.specs.Units.{UnitTree}
use Rattle.cx_cname.specs.Changes.{before, with_parts, Remains}
use Rattle.cx_cname.proofs.journal.undo_all.Given as goal

abbrev pub invariant-loop-n : goal.invariant-loop-n
invariant-loop-n l = record {
  remains : Remains l.tags l.fn.tags;
  told : (u : UnitTree) → before (take l.n l.changes) (with_parts u l.tags l.typedefs l.consts l.enums) ≡ before l.changes (with_parts u l.fn.tags l.fn.typedefs l.fn.consts l.fn.enums);
  within : l.n ≤ length l.changes;
}

abbrev pub decreases-loop-n : goal.decreases-loop-n
decreases-loop-n l = l.n
