use Rattle.std.proofs.Common.{◌+◌, ◌<◌, map, option_map, drop}
use Rattle.cx_ctree.specs.Exprs.{expr_tree, span_of, type_of}
use Rattle.cx_lcode.specs.Starts as starts
use Rattle.cx_lcode.specs.Statements as codes
use Rattle.cx_lemit.specs.Made.{Leaves}
use Rattle.cx_lpart.specs.Settings.{setting}
use Rattle.cx_lpart.proofs.part.emit_labels.Given as goal

abbrev pub invariant-loop-label : goal.invariant-loop-label
invariant-loop-label l = record {
  made : Leaves l.fn.code l.code
      (codes.labels_code (setting l.unit l.given l.served) (span_of (expr_tree l.value)) (type_of (expr_tree l.value)) l.group (map (option_map expr_tree) l.labels) l.at)
      (codes.labels_code (setting l.unit l.given l.served) (span_of (expr_tree l.value)) (type_of (expr_tree l.value)) l.group (map (option_map expr_tree) (drop l.label-index l.labels)) l.block);
  blocks : l.block + starts.labels_starts (map (option_map expr_tree) (drop l.label-index l.labels)) < 512;
}
