use Rattle.std.proofs.Common.{ℕ, List, ◌∙◌, ap}
use Rattle.std.specs.List.{find}
use Rattle.std.specs.Str.{bytes_eq}
use Rattle.cx_form.specs.Rules.{is_there}
use Rattle.cx_form.proofs.rules.is_known_region.Goals as goal

pub returns-in-Pointer : goal.returns-in-Pointer
returns-in-Pointer c = rw c.in-Pointer.is (c.knows.ensures ∙ ap (λ (name : List ℕ). is_there (find (λ r. bytes_eq r.name.text name) c.args.regions.now)) c.as_slice.ensures)
