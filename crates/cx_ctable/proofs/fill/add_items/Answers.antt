use Rattle.cx_ctable.specs.Tables.{function_of, object_of}
use Rattle.cx_ctable.proofs.Steps.{items_step}
use Rattle.cx_ctable.proofs.fill.add_items.Goals as goal

pub loop-item-preserved : goal.loop-item-preserved
loop-item-preserved c = record {
  functions = items_step function_of _ _ _ c.args.items.now c.loop-item.item-index c.item-item.result c.loop-item-test.true c.item-item.is c.in_ok-add_item.ensures.functions c.loop-item.invariant.functions;
  objects = items_step object_of _ _ _ c.args.items.now c.loop-item.item-index c.item-item.result c.loop-item-test.true c.item-item.is c.in_ok-add_item.ensures.objects c.loop-item.invariant.objects;
}
