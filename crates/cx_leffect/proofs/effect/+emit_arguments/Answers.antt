use Rattle.cx_leffect.proofs.Parts.{argument_then, span_is}
use Rattle.cx_sname.specs.File.{declared_of}
use Rattle.cx_leffect.proofs.effect.+emit_arguments.Goals as goal

pub returns : goal.returns
returns t c =
    argument_then c.emit_arguments.result _ _ _ _ (declared_of c.args.unit.now) c.args.jump c.args.args.now c.args.params.now c.e-item.result c.param-item.result c.e-item.result.span c.number_of.result c.number_in.result c.args.at c.args.t c.val_last.result
    c.in-len1-up.len_at_least c.e-item.is c.in-len1-up-params.len_at_least c.param-item.is (span_is c.e-item.result) c.number_of.ensures c.number_in.ensures c.val_last.ensures.value c.in_ok-emit_val.ensures c.in_ok-convert.ensures c.emit_arguments.ensures
