use Rattle.std.proofs.Common.{◌≤◌, ◌+◌, ◌^◌, length}
use Rattle.std.specs.Prelude.{All}
use Rattle.cx_ctree.specs.Units.{UnitTree, unit_tree}
use Rattle.cx_citem.specs.Items.{items_of}
use Rattle.cx_cread.specs.Reading.{InText, TakesAll}
use Rattle.cx_cread.proofs.unit.read_items.Given as goal

abbrev pub invariant-loop-first : goal.invariant-loop-first
invariant-loop-first l = record {
  told : (w : UnitTree) → TakesAll l.bytes (items_of l.rest) (unit_tree l.unit) w → TakesAll l.bytes (items_of l.lexemes) (unit_tree l.initial.unit) w;
  few : length l.unit.tags + length l.rest ≤ 2 ^ 24;
  text : All (InText l.unit.names l.bytes) l.rest;
}

abbrev pub decreases-loop-first : goal.decreases-loop-first
decreases-loop-first l = length l.rest
