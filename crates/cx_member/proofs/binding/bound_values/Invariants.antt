use Rattle.cx_member.specs.Reading.{Begun, CellsHold}
use Rattle.cx_member.proofs.binding.bound_values.Given as goal

abbrev pub invariant-loop-s : goal.invariant-loop-s
invariant-loop-s l = Begun (CellsHold l.memory l.index l.off l.cells) l.known l.n l.values.items l.s
