-- A field that is put at the end of those made so far.
use Rattle.std.proofs.Common.{◌≡◌, ℕ, List, [], ◌∷◌, ◌++◌, map, ap, ◌∙◌}
use Rattle.std.proofs.lemmas.List.{map-append}
use Rattle.cx_ctree.specs.Types.{type_tree}
use Rattle.cx_ctree.specs.declared.ctype.CType.{CType}
use Rattle.cx_ctree.specs.declared.decl.Member.{Member}
use Rattle.cx_abi.specs.declared.field.Field.{Field}
use Rattle.cx_abi.specs.Fields.{field_tree}

pub field_made : (made new : List Field) (m : Member) (t : CType) (offset at : ℕ) → new ≡ made ++ record { name = m.name; offset = offset; ctype = t } ∷ [] → offset ≡ at → type_tree t ≡ type_tree m.ctype
    → map field_tree new ≡ map field_tree made ++ record { name = m.name; offset = at; ctype = type_tree m.ctype } ∷ []
field_made made new m t offset at e p q =
    ap (map field_tree) e
    ∙ map-append field_tree made (record { name = m.name; offset = offset; ctype = t } ∷ [])
    ∙ ap (λ o. map field_tree made ++ record { name = m.name; offset = o; ctype = type_tree t } ∷ []) p
    ∙ ap (λ x. map field_tree made ++ record { name = m.name; offset = at; ctype = x } ∷ []) q
