-- The names of what a C file declares, by their numbers in the names of its unit.
use Rattle.std.specs.Prelude.{ℕ, Bool, true, false, ◌==◌, List, [], ◌∷◌, map, Option, Some, None, if◌then◌else◌}
use Rattle.std.specs.List.{list_any, flat_map}
use Rattle.cx_ctree.specs.Decls.{MemberTree, TagTree, DeclTree, types, object, proto, function, ItemTree, known, passed}
use Rattle.cx_ctree.specs.Units.{UnitTree}
use Rattle.cx_cname.specs.Known.{declared_by}
use Rattle.cx_cindex.specs.Sets.{with_numbers, with_fields, same_field}
use Rattle.cx_cindex.specs.declared.declared.Declared.{Declared}
use Rattle.cx_cindex.specs.declared.declared.OrdinaryNames.{OrdinaryNames}
use Rattle.cx_cindex.specs.declared.declared.TagNames.{TagNames}
use Rattle.cx_cindex.specs.declared.declared.FieldNames.{FieldNames}
use Rattle.cx_cindex.specs.declared.sets.FieldName.{FieldName}

-- ---- what each declaration declares

abbrev pub function_of : DeclTree → List ℕ
function_of types = []
function_of (object n t) = []
function_of (proto s) = s.name ∷ []
function_of (function f) = f.sig.name ∷ []

abbrev pub functions_of : List DeclTree → List ℕ
functions_of ds = flat_map function_of ds

abbrev pub object_of : DeclTree → List ℕ
object_of types = []
object_of (object n t) = n ∷ []
object_of (proto s) = []
object_of (function f) = []

abbrev pub objects_of : List DeclTree → List ℕ
objects_of ds = flat_map object_of ds

-- the declarations of an item
abbrev pub decls_of : ItemTree → List DeclTree
decls_of (known ds) = ds
decls_of (passed s) = []

-- the value where the tag is a union's, if u is true, or else where it is a struct's
abbrev pub of_kind : {A : Type 0} → (u : Bool) → (union_ : Bool) → List A → List A
of_kind true true xs = xs
of_kind true false xs = []
of_kind false true xs = []
of_kind false false xs = xs

abbrev pub name_in : Option ℕ → List ℕ
name_in None = []
name_in (Some n) = n ∷ []

-- the name of a struct, or of a union where u is true
abbrev pub tag_of : (u : Bool) → TagTree → List ℕ
tag_of u t = of_kind u t.union_ (name_in t.name)

abbrev pub tags_of : (u : Bool) → List TagTree → List ℕ
tags_of u ts = flat_map (tag_of u) ts

-- these members of the tag of this name
abbrev pub fields_named : (tag : ℕ) → List MemberTree → List FieldName
fields_named tag ms = map (λ m. record { tag = tag; name = m.name }) ms

abbrev pub fields_in : Option ℕ → Option (List MemberTree) → List FieldName
fields_in name None = []
fields_in None (Some ms) = []
fields_in (Some n) (Some ms) = fields_named n ms

-- the members of a struct, or of a union where u is true, that has a name
abbrev pub fields_of : (u : Bool) → TagTree → List FieldName
fields_of u t = of_kind u t.union_ (fields_in t.name t.members)

abbrev pub all_fields_of : (u : Bool) → List TagTree → List FieldName
all_fields_of u ts = flat_map (fields_of u) ts

-- ---- what the unit declares, each name once

abbrev pub ordinary_in : UnitTree → OrdinaryNames
ordinary_in u = record {
  functions = with_numbers (with_numbers [] (functions_of (declared_by u.items))) u.named;
  objects = with_numbers [] (objects_of (declared_by u.items));
}

abbrev pub tags_in : UnitTree → TagNames
tags_in u = record { structs = with_numbers [] (tags_of false u.tags); unions = with_numbers [] (tags_of true u.tags) }

abbrev pub fields_in_tags : UnitTree → FieldNames
fields_in_tags u = record { structs = with_fields [] (all_fields_of false u.tags); unions = with_fields [] (all_fields_of true u.tags) }

abbrev pub declared_in : UnitTree → Declared
declared_in u = record { ordinary = ordinary_in u; tags = tags_in u; fields = fields_in_tags u }

abbrev pub has_function : Declared → ℕ → Bool
has_function d n = list_any (λ m. n == m) d.ordinary.functions

abbrev pub has_object : Declared → ℕ → Bool
has_object d n = list_any (λ m. n == m) d.ordinary.objects

abbrev pub has_tag : Declared → (u : Bool) → ℕ → Bool
has_tag d true n = list_any (λ m. n == m) d.tags.unions
has_tag d false n = list_any (λ m. n == m) d.tags.structs

abbrev pub has_field : Declared → (u : Bool) → FieldName → Bool
has_field d true f = list_any (same_field f) d.fields.unions
has_field d false f = list_any (same_field f) d.fields.structs
