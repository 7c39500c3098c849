use Rattle.std.specs.Prelude.{None}
use Rattle.cx_close.specs.Knowing.{window}
use Rattle.cx_open.proofs.Bounds.{Bound}
use Rattle.cx_open.proofs.naming.bind_all.Given as goal

abbrev pub invariant-loop-i : goal.invariant-loop-i
invariant-loop-i l = Bound (window None l.s l.f l.start l.cells) l.n l.fn.o l.o l._i
