-- Numbers of names and members, as lists in which each stands once.
use Rattle.std.specs.Prelude.{ℕ, Bool, ◌==◌, ◌&&◌, List, [], ◌∷◌, ◌++◌, if◌then◌else◌}
use Rattle.std.specs.List.{list_any}
use Rattle.cx_cindex.specs.declared.sets.FieldName.{FieldName}

-- the numbers, with this one at the end where it is not among them
abbrev pub with_number : List ℕ → ℕ → List ℕ
with_number seen n = if list_any (λ m. n == m) seen then seen else seen ++ n ∷ []

-- the numbers, with these one after the other
abbrev pub with_numbers : List ℕ → List ℕ → List ℕ
with_numbers seen [] = seen
with_numbers seen (n ∷ ns) = with_numbers (with_number seen n) ns

-- both are the same member
abbrev pub same_field : FieldName → FieldName → Bool
same_field f g = (f.tag == g.tag) && (f.name == g.name)

-- the members, with this one at the end where it is not among them
abbrev pub with_field : List FieldName → FieldName → List FieldName
with_field seen f = if list_any (same_field f) seen then seen else seen ++ f ∷ []

-- the members, with these one after the other
abbrev pub with_fields : List FieldName → List FieldName → List FieldName
with_fields seen [] = seen
with_fields seen (f ∷ fs) = with_fields (with_field seen f) fs
