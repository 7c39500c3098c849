use Rattle.std.proofs.Common.{◌≡◌, map, drop}
use Rattle.cx_tsyn.specs.Items.{type_item_tree}
use Rattle.cx_tmeasure.specs.Views.{known_of}
use Rattle.cx_tsizes.specs.Regions.{with_items}
use Rattle.cx_tsizes.specs.Views.{regions_as}
use Rattle.cx_tsizes.proofs.regions.add_items.Given as goal

abbrev pub invariant-loop-item : goal.invariant-loop-item
invariant-loop-item l = with_items (known_of l.known) (regions_as l.regions) (map type_item_tree (drop l.item-index l.items)) ≡ with_items (known_of l.known) (regions_as l.fn.regions) (map type_item_tree l.items)
