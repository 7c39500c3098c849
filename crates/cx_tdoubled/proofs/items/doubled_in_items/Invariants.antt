use Rattle.std.proofs.Common.{◌≡◌, map, drop}
use Rattle.cx_tsyn.specs.Items.{type_item_tree}
use Rattle.cx_tscope.specs.Faults.{first}
use Rattle.cx_tdoubled.specs.Seen.{seen_by}
use Rattle.cx_tdoubled.specs.Doubled.{doubled_in_items}
use Rattle.cx_tdoubled.proofs.items.doubled_in_items.Given as goal

abbrev pub invariant-loop-item : goal.invariant-loop-item
invariant-loop-item l = first (doubled_in_items (seen_by l.seen) (map type_item_tree (drop l.item-index l.items))) ≡ first (doubled_in_items (seen_by l.fn.seen) (map type_item_tree l.items))
