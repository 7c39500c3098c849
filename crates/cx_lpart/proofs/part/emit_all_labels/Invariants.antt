use Rattle.std.proofs.Common.{◌+◌, ◌<◌, drop}
use Rattle.cx_ctree.specs.Exprs.{expr_tree, span_of, type_of}
use Rattle.cx_ctree.specs.Stmts.{group_trees}
use Rattle.cx_lcode.specs.Starts as starts
use Rattle.cx_lcode.specs.Statements as codes
use Rattle.cx_lemit.specs.Made.{Leaves}
use Rattle.cx_lpart.specs.Settings.{setting}
use Rattle.cx_lpart.proofs.part.emit_all_labels.Given as goal

abbrev pub invariant-loop-g : goal.invariant-loop-g
invariant-loop-g l = record {
  made : Leaves l.fn.code l.code
      (codes.all_labels_code (setting l.unit l.given l.served) (span_of (expr_tree l.value)) (type_of (expr_tree l.value)) l.first (group_trees l.gs) l.at)
      (codes.all_labels_code (setting l.unit l.given l.served) (span_of (expr_tree l.value)) (type_of (expr_tree l.value)) l.group (group_trees (drop l.g-index l.gs)) l.block);
  blocks : l.block + starts.all_labels_starts (group_trees (drop l.g-index l.gs)) < 512;
  groups : l.group + starts.groups_starts (group_trees (drop l.g-index l.gs)) < 512;
}
