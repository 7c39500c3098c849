use Rattle.std.proofs.Common.{arith}
use Rattle.cx_ctree.specs.Exprs.{expr_tree}
use Rattle.cx_lvalue.proofs.Needing.{some_needed}
use Rattle.cx_sname.specs.File.{declared_of}
use Rattle.cx_lstmt.proofs.statement.+stmt_lowered.Goals as goal

pub emit_switch-emit_all_labels-requires-clause-few_locals : goal.emit_switch-emit_all_labels-requires-clause-few_locals
emit_switch-emit_all_labels-requires-clause-few_locals t c = let n = (some_needed (declared_of c.args.unit.now) (expr_tree c.args.v.now)).val in omega (arith, n)
