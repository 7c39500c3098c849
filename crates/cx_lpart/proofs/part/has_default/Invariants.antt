use Rattle.std.proofs.Common.{◌≡◌, map, option_map, drop}
use Rattle.std.specs.List.{list_any}
use Rattle.cx_cmean.specs.Statements.{is_default}
use Rattle.cx_ctree.specs.Exprs.{expr_tree}
use Rattle.cx_lpart.proofs.part.has_default.Given as goal

abbrev pub invariant-loop-label : goal.invariant-loop-label
invariant-loop-label l = list_any is_default (map (option_map expr_tree) (drop l.label-index l.labels)) ≡ list_any is_default (map (option_map expr_tree) l.labels)
