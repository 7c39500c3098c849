use Rattle.std.proofs.Common.{arith}
use Rattle.cx_ctree.specs.Exprs.{expr_tree}
use Rattle.cx_lvalue.proofs.Needing.{some_needed, some_place}
use Rattle.cx_sname.specs.File.{declared_of}
use Rattle.cx_lvalue.proofs.value.+lowered.Goals as goal

pub emit_val-truth-requires : goal.emit_val-truth-requires
emit_val-truth-requires t c = let n = (some_needed (declared_of c.args.unit.now) (expr_tree c.args.e.now)).val in omega (arith, n)

pub emit_place-further-requires : goal.emit_place-further-requires
emit_place-further-requires t c = let n = some_place (declared_of c.args.unit.now) (expr_tree c.args.e.now) in omega (arith, n)
