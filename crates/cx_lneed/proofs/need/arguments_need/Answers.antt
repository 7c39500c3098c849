use Rattle.std.proofs.Common.{arith}
use Rattle.cx_sname.specs.File.{declared_of}
use Rattle.cx_lneed.proofs.Needing.{turn}
use Rattle.cx_lneed.proofs.need.arguments_need.Goals as goal

pub loop-rest-preserved : goal.loop-rest-preserved
loop-rest-preserved c = record {
  whole = turn (declared_of c.args.unit.now) c.loop-rest.rest.now c.loop-rest.others.now c.e-item.result c.loop-rest.need c.loop-rest.t c.val_need.result c.more.result c.greater-need.result c.more-t.result _
      c.in-len1-up.len_at_least c.e-item.is c.in-len1-up-others.len_at_least c.val_need.ensures c.more.ensures.exact c.greater-need.ensures.exact c.more-t.ensures.exact c.loop-rest.invariant.whole;
  need = let a = c.greater-need.ensures.exact in let b = c.more.ensures.exact in let n = c.loop-rest.invariant.need in omega (arith, a, b, n);
  t = let a = c.more-t.ensures.exact in omega (arith, a);
}
