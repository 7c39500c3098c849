use Rattle.std.proofs.Common.{◌≡◌, take}
use Rattle.cx_cells.specs.Values.{values_of, all_values}
use Rattle.cx_member.proofs.valued.are_values.Given as goal

abbrev pub invariant-loop-i : goal.invariant-loop-i
invariant-loop-i l = take l.i l.given ≡ take l.i (all_values (values_of l.values) l.terms)
