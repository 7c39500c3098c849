use Rattle.std.proofs.Common.{◌≡◌, drop}
use Rattle.cx_tsyn.specs.Types.{stype_trees}
use Rattle.cx_tsizes.specs.Regions.{tail_in_types}
use Rattle.cx_tsizes.proofs.tails.«+tail».Given as goal

abbrev pub invariant-tail_in_types-loop-part : goal.invariant-tail_in_types-loop-part
invariant-tail_in_types-loop-part l = tail_in_types (stype_trees (drop l.part-index l.parts)) ≡ tail_in_types (stype_trees l.parts)
