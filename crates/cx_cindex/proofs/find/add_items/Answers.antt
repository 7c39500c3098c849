use Rattle.cx_cindex.proofs.Numbers.{functions_step, objects_step}
use Rattle.cx_cindex.proofs.find.add_items.Goals as goal

pub loop-item-preserved : goal.loop-item-preserved
loop-item-preserved c = record {
  functions = functions_step c.loop-item.functions c.add_item.new.functions _ c.args.items.now c.loop-item.item-index c.item-item.result c.loop-item-test.true c.item-item.is c.in_ok-add_item.ensures.functions c.loop-item.invariant.functions;
  objects = objects_step c.loop-item.objects c.add_item.new.objects _ c.args.items.now c.loop-item.item-index c.item-item.result c.loop-item-test.true c.item-item.is c.in_ok-add_item.ensures.objects c.loop-item.invariant.objects;
}
