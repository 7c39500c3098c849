use Rattle.std.proofs.Common.{◌≡◌, map, drop}
use Rattle.cx_ctree.specs.Decls.{item_tree}
use Rattle.cx_cname.specs.Known.{declared_by}
use Rattle.cx_cindex.specs.Sets.{with_numbers}
use Rattle.cx_cindex.specs.UnitNames.{functions_of, objects_of}
use Rattle.cx_cindex.proofs.find.add_items.Given as goal

abbrev pub invariant-loop-item : goal.invariant-loop-item
invariant-loop-item l = record {
  functions : with_numbers l.functions (functions_of (declared_by (map item_tree (drop l.item-index l.items)))) ≡ with_numbers l.fn.functions (functions_of (declared_by (map item_tree l.items)));
  objects : with_numbers l.objects (objects_of (declared_by (map item_tree (drop l.item-index l.items)))) ≡ with_numbers l.fn.objects (objects_of (declared_by (map item_tree l.items)));
}
