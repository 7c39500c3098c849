use Rattle.std.proofs.Common.{ℕ, List, ◌≡◌, ◌++◌, ap, subst, sym, arith, length, length-append}
use Rattle.std.specs.Prelude.{All}
use Rattle.cx_ctree.specs.Units.{unit_tree}
use Rattle.cx_citem.specs.Items.{items_of}
use Rattle.cx_cread.specs.Reading.{InText}
use Rattle.cx_cread.proofs.Steps.{takes_names, text_parts, item_step, last_step}
use Rattle.cx_cread.proofs.unit.read_items.Goals as goal

pub returns-in-None : goal.returns-in-None
returns-in-None c = c.loop-first.invariant.told (unit_tree c.loop-first.unit) (last_step (items_of c.loop-first.rest.now) (rw c.in-None.is at c.in_ok-next_item.ensures.items))

pub read_item-requires-clause-text : goal.read_item-requires-clause-text
read_item-requires-clause-text c =
    let parts = rw c.in-Some.is at c.in_ok-next_item.ensures.parts in
    (text_parts c.loop-first.unit.names c.args.bytes.now c.loop-first.rest.now c.in-Some.first.now c.in-Some.after.now parts c.loop-first.invariant.text).0

pub loop-first-preserved : goal.loop-first-preserved
loop-first-preserved c =
    let first = c.in-Some.first.now in
    let after = c.in-Some.after.now in
    let bytes = c.args.bytes.now in
    let parts : c.loop-first.rest.now ≡ first ++ after = rw c.in-Some.is at c.in_ok-next_item.ensures.parts in
    let items = rw c.in-Some.is at c.in_ok-next_item.ensures.items in
    let text = (text_parts c.loop-first.unit.names bytes c.loop-first.rest.now first after parts c.loop-first.invariant.text).1 in
    record {
      told = λ w more. c.loop-first.invariant.told w (item_step first (items_of after) (items_of c.loop-first.rest.now) items c.in_ok-read_item-in-Some.ensures.takes more);
      few = omega (arith, ap length parts, length-append first after, c.loop-first.invariant.few, c.read_item.ensures.few);
      text = subst (λ (names : List (List ℕ)). All (InText names bytes) after) (sym (takes_names c.in_ok-read_item-in-Some.ensures.takes)) text;
    }
