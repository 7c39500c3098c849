use Rattle.std.proofs.Common.{◌≡◌, map, drop}
use Rattle.cx_tsyn.specs.Items.{type_item_tree}
use Rattle.cx_tarity.specs.Known.{regions_of, with_items}
use Rattle.cx_tarity.proofs.regions.add_items.Given as goal

abbrev pub invariant-loop-item : goal.invariant-loop-item
invariant-loop-item l = with_items (regions_of l.regions) (map type_item_tree (drop l.item-index l.items)) ≡ with_items (regions_of l.fn.regions) (map type_item_tree l.items)
