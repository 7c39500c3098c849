-- What stands around a statement, and the labels of a switch so far, as the code holds them.
use Rattle.std.specs.Prelude.{◌≡◌, List, Option, map, option_map, Result, Ok, Err}
use Rattle.cx_ctree.specs.Types.{type_tree}
use Rattle.cx_ctree.specs.Exprs.{ExprTree, expr_tree}
use Rattle.cx_ctree.specs.declared.expr.Expr.{Expr}
use Rattle.cx_scope.specs.Locals.{Locals}
use Rattle.cx_snode.specs.Judging.{Judged, Tells}
use Rattle.cx_snode.specs.declared.fault.SemaFault.{SemaFault}
use Rattle.cx_sstmt.specs.Labels as labels
use Rattle.cx_sstmt.specs.Stmts as stmts
use Rattle.cx_sstmt.specs.declared.around.Around as a
use Rattle.cx_sstmt.specs.declared.label.Seen as s

abbrev pub around_view : a.Around → stmts.Around
around_view x = record { result = type_tree x.result.now; looped = x.looped; breakable = x.breakable }

abbrev pub seen_view : s.Seen → labels.Seen
seen_view x = record { values = x.values.keys; default_ = x.default_ }

-- the answer and the locals after it are what is judged, unless memory ran out
abbrev pub Leaves : {A B : Type 0} → (A → B) → Result A SemaFault → Locals → Judged (stmts.After B) → Type 0
Leaves view (Ok x) ls r = r ≡ Ok (record { tree = view x; locals = ls })
Leaves view (Err e) ls r = Tells e r

-- the labels so far are those that are judged, unless memory ran out
abbrev pub Sees : {U : Type 0} → Result U SemaFault → labels.Seen → Judged labels.Seen → Type 0
Sees (Ok x) seen r = r ≡ Ok seen
Sees (Err e) seen r = Tells e r

abbrev pub label_trees : List (Option Expr) → List (Option ExprTree)
label_trees ls = map (option_map expr_tree) ls

-- the labels and those so far are what is judged, unless memory ran out
abbrev pub Labels : Result (List (Option Expr)) SemaFault → labels.Seen → Judged labels.Labelled → Type 0
Labels (Ok ls) seen r = r ≡ Ok (record { labels = label_trees ls; seen = seen })
Labels (Err e) seen r = Tells e r
