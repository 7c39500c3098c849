use Rattle.cx_sfile.specs.Entries.{of_decl}
use Rattle.cx_ctable.proofs.Steps.{items_step}
use Rattle.cx_sfile.proofs.fill.add_items.Goals as goal

pub loop-item-preserved : goal.loop-item-preserved
loop-item-preserved c = items_step of_decl _ _ _ c.args.items.now c.loop-item.item-index c.item-item.result c.loop-item-test.true c.item-item.is c.in_ok-add_item.ensures c.loop-item.invariant
