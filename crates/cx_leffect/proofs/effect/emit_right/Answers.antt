use Rattle.std.specs.Prelude.{option_map}
use Rattle.cx_ctree.specs.Exprs.{call_tree}
use Rattle.cx_ctree.specs.Types.{type_tree}
use Rattle.cx_leffect.proofs.Parts.{call_right, taken_is}
use Rattle.cx_sname.specs.File.{declared_of}
use Rattle.cx_leffect.proofs.effect.emit_right.Goals as goal

pub returns-in_ok-convert-in-Call : goal.returns-in_ok-convert-in-Call
returns-in_ok-convert-in-Call c =
    rw c.in-Call.is
    (call_right c.convert-in-Call-2.result _ _ _ _ (declared_of c.args.unit.now) c.args.jump (type_tree c.args.t.now) (call_tree c.in-Call.c) (option_map type_tree c.in-Call.w) (type_tree c.taken_as-taken.result.now) (option_map type_tree c.in_ok-pointee-in-Call.pointee)
    c.number_given-given.result c.number_in-from.result c.number_in-to.result c.args.at c.args.served (taken_is c.as_ref.result c.in-Call.w (type_tree c.args.t.now) _ c.as_ref.ensures.value c.taken_as-taken.ensures) c.in_ok-pointee-in-Call.ensures c.number_given-given.ensures c.number_in-from.ensures c.number_in-to.ensures
    c.in_ok-emit_call-in-Call.ensures c.in_ok-convert-in-Call.ensures c.convert-in-Call-2.ensures)
