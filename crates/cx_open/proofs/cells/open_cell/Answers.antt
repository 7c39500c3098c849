use Rattle.std.specs.Prelude.{List, Option}
use Rattle.std.proofs.Common.{ap, ◌∙◌, subst}
use Rattle.cx_term.specs.Forms.{Linear}
use Rattle.cx_state.specs.declared.state.Cell.{Cell}
use Rattle.cx_learn.specs.Answers.{Agrees}
use Rattle.cx_close.specs.Knowing.{known_cell, place_of}
use Rattle.cx_open.specs.Cells.{kind_opened}
use Rattle.cx_open.proofs.cells.open_cell.Goals as goal

pub returns : goal.returns
returns c =
    let p = c.place_of-at.ensures in
    let q = c.copied_cell-d.ensures ∙ c.known_cell.ensures ∙ ap (λ (cells : List Cell). known_cell cells c.args.s c.place_of-at.result c.args.c.now.size) c.as_slice.ensures ∙ ap (λ (at : Option Linear). known_cell c.args.env.cells c.args.s at c.args.c.now.size) p in
    subst
    (λ (d : Option Cell). Agrees c.open_kind.result (kind_opened c.args.rules.now.forms c.args.values.now c.args.env c.args.s c.args.c.now.size c.args.c.now.kind (place_of c.args.start.now c.args.f.now c.args.c.now) d))
    q
    (subst (λ (at : Option Linear). Agrees c.open_kind.result (kind_opened c.args.rules.now.forms c.args.values.now c.args.env c.args.s c.args.c.now.size c.args.c.now.kind at c.copied_cell-d.result)) p c.open_kind.ensures)
