use Rattle.std.proofs.Common.{◌∙◌}
use Rattle.cx_cname.proofs.Same.{after_known}
use Rattle.cx_sname.proofs.meaning.found_items.Goals as goal

pub loop-rest-preserved-in-None : goal.loop-rest-preserved-in-None
loop-rest-preserved-in-None c =
    after_known c.args.n c.loop-rest.rest.now c.item-item.result c.in-Known.decls c.in-len1-up.len_at_least c.item-item.is c.in-Known.is (rw c.as_slice.ensures at c.in-None.ensures)
    ∙ c.loop-rest.invariant
