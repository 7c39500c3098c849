use Rattle.std.proofs.Common.{◌≡◌, map, drop}
use Rattle.cx_tsyn.specs.Items.{type_item_tree}
use Rattle.cx_tscope.specs.Scopes.{with_words}
use Rattle.cx_tnames.specs.Known.{region_words}
use Rattle.cx_tnames.proofs.known.add_regions.Given as goal

abbrev pub invariant-loop-item : goal.invariant-loop-item
invariant-loop-item l = with_words l.regions (region_words (map type_item_tree (drop l.item-index l.items))) ≡ with_words l.fn.regions (region_words (map type_item_tree l.items))
