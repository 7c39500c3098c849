use Rattle.std.proofs.Common.{◌≡◌, map, drop}
use Rattle.cx_ctree.specs.Decls.{item_tree}
use Rattle.cx_cname.specs.Known.{declared_by}
use Rattle.cx_ctable.specs.Firsts.{with_firsts}
use Rattle.cx_sfile.specs.Entries.{seen_meanings, of_decls}
use Rattle.cx_sfile.proofs.fill.add_items.Given as goal

abbrev pub invariant-loop-item : goal.invariant-loop-item
invariant-loop-item l =
    with_firsts (seen_meanings l.meanings.entries) (of_decls (declared_by (map item_tree (drop l.item-index l.items)))) ≡ with_firsts (seen_meanings l.fn.meanings.entries) (of_decls (declared_by (map item_tree l.items)))
