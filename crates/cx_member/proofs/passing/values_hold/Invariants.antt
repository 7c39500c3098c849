use Rattle.std.proofs.Common.{drop}
use Rattle.std.specs.Prelude.{◌↔◌}
use Rattle.cx_cells.specs.Calls.{ValuesHold}
use Rattle.cx_cells.specs.Layouts.{layout_of}
use Rattle.cx_cells.specs.Values.{values_of}
use Rattle.cx_member.proofs.passing.values_hold.Given as goal

abbrev pub invariant-loop-i : goal.invariant-loop-i
invariant-loop-i l =
    ValuesHold (values_of l.values) (layout_of l.memory) (drop l.i l.kinds) (drop l.i l.given) ↔ ValuesHold (values_of l.values) (layout_of l.memory) l.kinds l.given
