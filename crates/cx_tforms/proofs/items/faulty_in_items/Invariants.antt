use Rattle.std.proofs.Common.{◌≡◌, map, drop}
use Rattle.cx_tsyn.specs.Items.{type_item_tree}
use Rattle.cx_tscope.specs.Faults.{first}
use Rattle.cx_tforms.specs.Faulty.{faulty_in_items}
use Rattle.cx_tforms.proofs.items.faulty_in_items.Given as goal

abbrev pub invariant-loop-item : goal.invariant-loop-item
invariant-loop-item l = first (faulty_in_items (map type_item_tree (drop l.item-index l.items))) ≡ first (faulty_in_items (map type_item_tree l.items))
