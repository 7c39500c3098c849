use Rattle.cx_cells.specs.Layouts.{layout_of}
use Rattle.cx_member.specs.Passing.{ResultHolds}
use Rattle.cx_member.specs.Reading.{Begun}
use Rattle.cx_member.proofs.passing.bound_by_result.Given as goal

abbrev pub invariant-loop-s : goal.invariant-loop-s
invariant-loop-s l = Begun (ResultHolds (layout_of l.memory) l.kind l.z) l.known l.n l.values.items l.s
