use Rattle.std.proofs.Common.{ℕ, ◌+◌, ap, ◌∙◌, sym}
use Rattle.cx_base.specs.Place.{column_of}
use Rattle.cx_base.proofs.Places.{later_line, later_same, later_other}
use Rattle.cx_base.proofs.place.place_after.Goals.{then-since-between, else-since-between}
use Rattle.cx_base.proofs.place.place_after.Goals as goal

pub returns-clause-line : goal.returns-clause-line
returns-clause-line c = rw (c.requires.line, c.newlines-lines.ensures) (later_line c.args.text.now c.args.from c.args.at c.requires.later)

pub returns-clause-column : goal.returns-clause-column
returns-clause-column c =
    elim c.if-since-between.branch [
      | then-since-between w ↦ rw (w.before-is, c.requires.column) (ap (λ (n : ℕ). column_of c.args.text.now c.args.from + n) c.since_newline-since.ensures ∙ later_same c.args.text.now c.args.from c.args.at c.requires.later (sym c.since_newline-since.ensures ∙ w.if-since-between.true))
      | else-since-between w ↦ rw (w.before-is) (ap (λ (n : ℕ). 1 + n) c.since_newline-since.ensures ∙ later_other c.args.text.now c.args.from c.args.at c.requires.later (λ e. w.if-since-between.false (c.since_newline-since.ensures ∙ e)))
    ]
