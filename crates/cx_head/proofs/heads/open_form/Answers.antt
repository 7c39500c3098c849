use Rattle.std.specs.Prelude.{◌≡◌, List, Some, slice_get}
use Rattle.std.proofs.Common.{sym, ap, ◌∙◌}
use Rattle.cx_cells.specs.declared.form.Form.{Form}
use Rattle.cx_close.proofs.Closed.{form_few}
use Rattle.cx_head.proofs.Few.{tail-few}
use Rattle.cx_head.proofs.heads.open_form.Goals as goal

pub open_chosen-requires : goal.open_chosen-requires
open_chosen-requires c =
    let q : Some c.in-Some.form.now ≡ slice_get c.args.rules.now.forms c.args.f.now.name = c.in-Some.ensures ∙ ap (λ (forms : List Form). slice_get forms c.args.f.now.name) c.as_slice.ensures in
    let h = form_few c.args.rules.now.forms c.args.env c.args.s c.args.f.now c.in-Some.form.now c.args.rules.now.kept.each_form c.requires.valid (sym c.requires.fact) q in
    record { few = h.0; branches = h.1; element = tail-few c.args.rules.now.forms c.in-Some.form.now c.args.f.now.name c.args.rules.now.kept.each_form q }
