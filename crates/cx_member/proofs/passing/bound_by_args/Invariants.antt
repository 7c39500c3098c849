use Rattle.std.proofs.Common.{[]}
use Rattle.cx_cells.specs.Layouts.{layout_of}
use Rattle.cx_member.specs.Passing.{ArgsHold}
use Rattle.cx_member.specs.Reading.{Begun}
use Rattle.cx_member.proofs.passing.bound_by_args.Given as goal

abbrev pub invariant-loop-s : goal.invariant-loop-s
invariant-loop-s l = Begun (ArgsHold (layout_of l.memory) l.kinds l.given) [] l.n l.values.items l.s
