use Rattle.cx_close.specs.Knowing.{window}
use Rattle.cx_close.proofs.Binders.{Begun}
use Rattle.cx_close.proofs.knowing.known_binders.Given as goal

abbrev pub invariant-loop-k : goal.invariant-loop-k
invariant-loop-k l = Begun l.env (window l.own l.s l.f l.start l.cells) l.known l.n l.values.items l.k
