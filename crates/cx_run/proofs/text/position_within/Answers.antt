use Rattle.std.proofs.Common.{◌∙◌, ap}
use Rattle.cx_base.specs.Place.{line_of, column_of}
use Rattle.cx_run.proofs.Places.{line_within, column_within}
use Rattle.cx_run.proofs.text.position_within.Goals as goal

pub returns-clause-line : goal.returns-clause-line
returns-clause-line c =
    c.position_of.ensures.known.line ∙ ap (line_of c.args.source.now) (c.position_of.ensures.at ∙ c.min-within.ensures) ∙ line_within c.args.source.now c.args.at

pub returns-clause-column : goal.returns-clause-column
returns-clause-column c =
    c.position_of.ensures.known.column ∙ ap (column_of c.args.source.now) (c.position_of.ensures.at ∙ c.min-within.ensures) ∙ column_within c.args.source.now c.args.at
