use Rattle.std.proofs.Common.{◌∙◌}
use Rattle.cx_sorts.proofs.Cells.{named_begins, compared}
use Rattle.cx_sorts.proofs.rules.cell_at.Goals as goal

pub returns : goal.returns
returns c =
    c.cell_named.ensures
    ∙ named_begins c.args.region.now c.args.s.now c.args.offset c.in_ok-m.m.now c.in_ok-m.ensures (compared c.offset_of.result _ c.args.offset c.offset_of.ensures c.if-ne.ensures)
