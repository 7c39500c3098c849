use Rattle.std.proofs.Common.{ℕ, List, ◌∙◌, ap}
use Rattle.std.specs.List.{find}
use Rattle.std.specs.Str.{bytes_eq}
use Rattle.cx_form.specs.Rules.{is_there}
use Rattle.cx_form.proofs.rules.is_known_type.Goals as goal

pub returns-in-Pointer : goal.returns-in-Pointer
returns-in-Pointer c = rw c.in-Pointer.is (c.knows.ensures ∙ ap (λ (name : List ℕ). is_there (find (λ s. bytes_eq s.name.text name) c.args.structs.now)) c.as_slice.ensures)
