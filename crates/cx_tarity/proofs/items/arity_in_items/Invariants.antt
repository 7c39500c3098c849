use Rattle.std.proofs.Common.{◌≡◌, map, drop}
use Rattle.cx_tsyn.specs.Items.{type_item_tree}
use Rattle.cx_tscope.specs.Faults.{first}
use Rattle.cx_tarity.specs.Known.{known_of}
use Rattle.cx_tarity.specs.Arity.{arity_in_items}
use Rattle.cx_tarity.proofs.items.arity_in_items.Given as goal

abbrev pub invariant-loop-item : goal.invariant-loop-item
invariant-loop-item l = first (arity_in_items (known_of l.known) (map type_item_tree (drop l.item-index l.items))) ≡ first (arity_in_items (known_of l.known) (map type_item_tree l.items))
