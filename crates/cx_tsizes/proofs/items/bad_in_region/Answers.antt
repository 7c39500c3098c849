use Rattle.cx_tmeasure.proofs.Told.{right_told}
use Rattle.cx_tmeasure.specs.Views.{known_of}
use Rattle.cx_tsizes.proofs.Over.{region_over}
use Rattle.cx_tsizes.proofs.items.bad_in_region.Goals as goal

pub returns-else-few_cells : goal.returns-else-few_cells
returns-else-few_cells c =
    let told = right_told c.in_ok-span.field-0 c.in-Right.all _ _ c.in_ok-span.ensures c.in-Right.is in
    region_over (known_of c.args.known.now) c.args.t.now c.in-Right.all c.few_cells.result told.0 told.1 c.few_cells.ensures c.if-few_cells.false
