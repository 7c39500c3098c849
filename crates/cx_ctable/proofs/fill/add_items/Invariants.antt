use Rattle.std.proofs.Common.{◌≡◌, map, drop}
use Rattle.cx_ctree.specs.Types.{type_tree}
use Rattle.cx_ctree.specs.Decls.{signature_tree, item_tree}
use Rattle.cx_cname.specs.Known.{declared_by}
use Rattle.cx_ctable.specs.Firsts.{with_firsts}
use Rattle.cx_ctable.specs.Tables.{functions_of, objects_of}
use Rattle.cx_ctable.proofs.fill.add_items.Given as goal

abbrev pub invariant-loop-item : goal.invariant-loop-item
invariant-loop-item l = record {
  functions : with_firsts (map (λ e. (e.0, signature_tree e.1.now)) l.functions.entries) (functions_of (declared_by (map item_tree (drop l.item-index l.items)))) ≡ with_firsts (map (λ e. (e.0, signature_tree e.1.now)) l.fn.functions.entries) (functions_of (declared_by (map item_tree l.items)));
  objects : with_firsts (map (λ e. (e.0, type_tree e.1.now)) l.objects.entries) (objects_of (declared_by (map item_tree (drop l.item-index l.items)))) ≡ with_firsts (map (λ e. (e.0, type_tree e.1.now)) l.fn.objects.entries) (objects_of (declared_by (map item_tree l.items)));
}
