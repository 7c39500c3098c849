use Rattle.std.proofs.Common.{◌≡◌, length}
use Rattle.cx_sfile.specs.Views.{declared_in}
use Rattle.cx_sstmt.specs.Labels.{typed_labels}
use Rattle.cx_sstmt.specs.Around.{seen_view, label_trees}
use Rattle.cx_sstmt.proofs.Steps.{behind_labels}
use Rattle.cx_sstmt.proofs.label.typed_labels.Given as goal

abbrev pub invariant-loop-rest : goal.invariant-loop-rest
invariant-loop-rest l =
    behind_labels (label_trees l.done) (typed_labels (declared_in l.file) l.t l.span (seen_view l.seen) (label_trees l.rest))
    ≡ typed_labels (declared_in l.file) l.t l.span (seen_view l.fn.seen) (label_trees l.labels)

abbrev pub decreases-loop-rest : goal.decreases-loop-rest
decreases-loop-rest l = length l.rest
