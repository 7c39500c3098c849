use Rattle.std.specs.Prelude.{None}
use Rattle.std.proofs.Common.{arith}
use Rattle.cx_close.specs.Knowing.{window}
use Rattle.cx_open.proofs.Bounds.{bound-none, bound-more, bound-stops}
use Rattle.cx_open.proofs.naming.bind_all.Goals as goal

pub loop-i-init : goal.loop-i-init
loop-i-init c = bound-none (window None c.args.s c.args.f.now c.args.start.now c.args.cells.now) c.args.n c.args.o

pub returns-in-Err-clause-exact : goal.returns-in-Err-clause-exact
returns-in-Err-clause-exact c = bound-stops (window None c.args.s c.args.f.now c.args.start.now c.args.cells.now) c.args.n c.args.o c.loop-i.o c.loop-i._i c.in-Err.fault (omega arith) c.in-Err.ensures.exact c.loop-i.invariant

pub loop-i-preserved : goal.loop-i-preserved
loop-i-preserved c =
    bound-more (window None c.args.s c.args.f.now c.args.start.now c.args.cells.now) c.args.n c.args.o c.loop-i.o c.in-Ok.next c.loop-i._i (omega arith) c.in-Ok.ensures.longer c.in-Ok.ensures.exact c.loop-i.invariant
