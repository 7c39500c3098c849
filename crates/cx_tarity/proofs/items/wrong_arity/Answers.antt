use Rattle.std.proofs.Common.{◌≡◌, List, map, ap, subst, ◌∙◌}
use Rattle.std.specs.Prelude.{IfOk}
use Rattle.cx_ctree.specs.Units.{unit_tree}
use Rattle.cx_tsyn.specs.Items.{type_item_tree}
use Rattle.cx_tsyn.specs.declared.item.TypeItem.{TypeItem}
use Rattle.cx_tscope.specs.Faults.{first}
use Rattle.cx_tarity.specs.Known.{Known, known_of, known_in}
use Rattle.cx_tarity.specs.Arity.{arity_in_items}
use Rattle.cx_tarity.proofs.items.wrong_arity.Goals as goal

pub returns : goal.returns
returns c =
    let known : known_of c.in_ok-known.known ≡ known_in (unit_tree c.args.unit.now) (map type_item_tree c.args.surface.now.items) =
    c.in_ok-known.ensures ∙ ap (λ items. known_in (unit_tree c.args.unit.now) (map type_item_tree items)) c.as_slice-items.ensures in
    let beside : Known → Type 0 = λ k. IfOk c.arity_in_items.result (λ s. s ≡ first (arity_in_items k (map type_item_tree c.args.surface.now.items))) in
    let over : List TypeItem → Type 0 = λ items. IfOk c.arity_in_items.result (λ s. s ≡ first (arity_in_items (known_of c.in_ok-known.known) (map type_item_tree items))) in
    subst beside known (subst over c.as_slice-items.ensures c.arity_in_items.ensures)
