-- Functions and results without their places, as plain data.
use Rattle.std.specs.Prelude.{List, Option, map, option_map}
use Rattle.cx_base.specs.declared.span.Span.{Span}
use Rattle.cx_tsyn.specs.Words.{word_tree}
use Rattle.cx_tsyn.specs.Lins.{relation_tree}
use Rattle.cx_tsyn.specs.Cells.{cell_tree}
use Rattle.cx_tsyn.specs.Items.{SResultTree, result_tree}
use Rattle.cx_tfunc.specs.Funcs.{FuncBody}
use Rattle.cx_tfunc.specs.declared.result.Placed.{Placed}
use Rattle.cx_tfunc.specs.declared.functions.FuncParts.{FuncParts}

abbrev pub placed_tree : Placed → Option SResultTree × Span
placed_tree r = (option_map result_tree r.result, r.span)

abbrev pub func_parts : FuncParts → FuncBody
func_parts f = (word_tree f.name, map word_tree f.binders, map cell_tree f.args, map relation_tree f.conds, option_map result_tree f.result, f.result_span)
