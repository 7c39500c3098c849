use Rattle.std.proofs.Common.{◌≡◌, drop, map}
use Rattle.cx_ctree.specs.Stmts.{stmt_tree, in_order, group_tree, groups_in_order}
use Rattle.cx_scope.specs.Views.{locals_of}
use Rattle.cx_sfile.specs.Views.{declared_in}
use Rattle.cx_sstmt.specs.Labels.{none_seen}
use Rattle.cx_sstmt.specs.Stmts.{typed_stmts, typed_groups}
use Rattle.cx_sstmt.specs.Around.{around_view, seen_view}
use Rattle.cx_sstmt.proofs.Steps.{behind_stmts, behind_groups}
use Rattle.cx_sstmt.proofs.walk.«+statements».Given as goal

abbrev pub invariant-typed_stmts-loop-s : goal.invariant-typed_stmts-loop-s
invariant-typed_stmts-loop-s l =
    behind_stmts (map stmt_tree l.done) (typed_stmts (declared_in l.file) (around_view l.around) (locals_of l.locals) (in_order (map stmt_tree (drop l.s-index l.stmts))))
    ≡ typed_stmts (declared_in l.file) (around_view l.around) (locals_of l.fn.locals) (in_order (map stmt_tree l.stmts))

abbrev pub invariant-typed_groups-loop-g : goal.invariant-typed_groups-loop-g
invariant-typed_groups-loop-g l =
    behind_groups (map group_tree l.done) (typed_groups (declared_in l.file) (around_view l.around) (locals_of l.locals) l.t l.span (seen_view l.seen) (groups_in_order (map group_tree (drop l.g-index l.groups))))
    ≡ typed_groups (declared_in l.file) (around_view l.around) (locals_of l.fn.locals) l.t l.span none_seen (groups_in_order (map group_tree l.groups))
