use Rattle.std.specs.Prelude.{List}
use Rattle.std.proofs.Common.{ap, ◌∙◌}
use Rattle.cx_term.specs.Forms.{Linear}
use Rattle.cx_term.specs.declared.term.Ineq.{Ineq}
use Rattle.cx_entail.specs.Ranges.{Span}
use Rattle.cx_entail.specs.Shows.{shown_nonzero}
use Rattle.cx_query.proofs.pointing.is_nonzero.Goals as goal

pub returns : goal.returns
returns c =
    c.nonzero_by.ensures ∙ ap (λ (known : List Ineq). shown_nonzero known c.as_slice-2.result.now c.symbol.result) c.as_slice.ensures
    ∙ ap (λ (ranges : List Span). shown_nonzero c.args.env.now.conds ranges c.symbol.result) c.as_slice-2.ensures
    ∙ ap (λ (t : Linear). shown_nonzero c.args.env.now.conds c.args.env.now.ranges t) c.symbol.ensures
