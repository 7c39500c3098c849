use Rattle.std.proofs.Common.{◌≡◌, ◌+◌, length}
use Rattle.cx_citem.specs.Items.{beginning}
use Rattle.cx_citem.specs.Scanning.{place_of, length_from}
use Rattle.cx_citem.proofs.items.item_length.Given as goal

abbrev pub invariant-loop-o : goal.invariant-loop-o
invariant-loop-o l = record {
  told : length_from (place_of l.nesting) l.n l.rest ≡ length_from beginning 0 l.lexemes;
  within : l.n + length l.rest ≡ length l.lexemes;
}

abbrev pub decreases-loop-o : goal.decreases-loop-o
decreases-loop-o l = length l.rest
