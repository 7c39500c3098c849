use Rattle.std.specs.Prelude.{List, All}
use Rattle.std.proofs.Common.{sym, subst}
use Rattle.cx_cells.specs.Kept.{FormKept}
use Rattle.cx_cells.specs.declared.form.Form.{Form}
use Rattle.cx_close.proofs.closing.closes.Goals as goal

pub closes_by-requires-clause-kept : goal.closes_by-requires-clause-kept
closes_by-requires-clause-kept c = subst (λ (fs : List Form). All (FormKept fs) fs) (sym c.as_slice.ensures) c.args.rules.now.kept.each_form
