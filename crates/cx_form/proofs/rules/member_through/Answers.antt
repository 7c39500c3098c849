use Rattle.std.proofs.Common.{◌≡◌, ℕ, List, Option, Some, ◌∙◌, ap}
use Rattle.std.specs.List.{find}
use Rattle.std.specs.Option.{option_and_then}
use Rattle.std.specs.Str.{bytes_eq}
use Rattle.cx_form.specs.declared.tree.Struct.{Struct}
use Rattle.cx_form.specs.declared.tree.Member.{Member}
use Rattle.cx_form.specs.Form.{member_type}
use Rattle.cx_form.proofs.rules.member_through.Goals as goal

pub returns-in-Some : goal.returns-in-Some
returns-in-Some c =
    let found : Some c.in-Some.structure.now ≡ find (λ s. bytes_eq s.name.text c.in-Pointer.tag.text) c.args.structs.now = c.in-Some.ensures ∙ ap (λ (name : List ℕ). find (λ s. bytes_eq s.name.text name) c.args.structs.now) c.as_slice.ensures in
    rw c.in-Pointer.is (c.member_type.ensures ∙ ap (λ (ms : List Member). member_type ms c.args.member.now) c.as_slice-in-Some.ensures ∙ ap (λ (o : Option Struct). option_and_then (λ s. member_type s.members c.args.member.now) o) found)
