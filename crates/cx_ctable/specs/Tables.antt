-- What a C file declares, by the numbers of the names of its unit: of several declarations of one name the first.
use Rattle.std.specs.Prelude.{ℕ, suc, Bool, true, false, nat_eq, List, [], ◌∷◌, ◌++◌, map, Option, Some, None}
use Rattle.std.specs.List.{flat_map}
use Rattle.std.specs.Map.{lookup}
use Rattle.cx_ctree.specs.Types.{TypeTree, type_tree}
use Rattle.cx_ctree.specs.Decls.{TagTree, SignatureTree, signature_tree, DeclTree, types, object, proto, function}
use Rattle.cx_ctree.specs.Units.{UnitTree}
use Rattle.cx_cname.specs.Known.{declared_by}
use Rattle.cx_cindex.specs.UnitNames.{of_kind}
use Rattle.cx_ctable.specs.declared.table.Table as code
use Rattle.cx_ctable.specs.Firsts.{with_firsts}

-- the functions with their signatures, the objects with their types, and the structs and the unions with their places in the tags
pub record Table : Type 0 where
  pub functions : List (ℕ × SignatureTree)
  pub objects : List (ℕ × TypeTree)
  pub structs : List (ℕ × ℕ)
  pub unions : List (ℕ × ℕ)

abbrev pub function_of : DeclTree → List (ℕ × SignatureTree)
function_of types = []
function_of (object n t) = []
function_of (proto s) = (s.name, s) ∷ []
function_of (function f) = (f.sig.name, f.sig) ∷ []

abbrev pub object_of : DeclTree → List (ℕ × TypeTree)
object_of types = []
object_of (object n t) = (n, t) ∷ []
object_of (proto s) = []
object_of (function f) = []

abbrev pub functions_of : List DeclTree → List (ℕ × SignatureTree)
functions_of ds = flat_map function_of ds

abbrev pub objects_of : List DeclTree → List (ℕ × TypeTree)
objects_of ds = flat_map object_of ds

abbrev pub name_at : (at : ℕ) → Option ℕ → List (ℕ × ℕ)
name_at at None = []
name_at at (Some n) = (n, at) ∷ []

-- the name of the tag with its place, where it is a union's, if u is true, or else where it is a struct's
abbrev pub tag_at : (u : Bool) → (at : ℕ) → TagTree → List (ℕ × ℕ)
tag_at u at t = of_kind u t.union_ (name_at at t.name)

-- the names of the structs among the tags, or of the unions where u is true, with their places, the first of which is `at`
abbrev pub tags_from : (u : Bool) → (at : ℕ) → List TagTree → List (ℕ × ℕ)
tags_from u at [] = []
tags_from u at (t ∷ ts) = tag_at u at t ++ tags_from u (suc at) ts

-- what the unit declares
abbrev pub table_of : UnitTree → Table
table_of u = record {
  functions = with_firsts [] (functions_of (declared_by u.items));
  objects = with_firsts [] (objects_of (declared_by u.items));
  structs = with_firsts [] (tags_from false 0 u.tags);
  unions = with_firsts [] (tags_from true 0 u.tags);
}

-- the same, of the code
abbrev pub table_tree : code.Table → Table
table_tree t = record {
  functions = map (λ e. (e.0, signature_tree e.1.now)) t.functions.entries;
  objects = map (λ e. (e.0, type_tree e.1.now)) t.objects.entries;
  structs = t.structs.entries;
  unions = t.unions.entries;
}

abbrev pub function_in : Table → ℕ → Option SignatureTree
function_in t n = lookup (nat_eq n) t.functions

abbrev pub object_in : Table → ℕ → Option TypeTree
object_in t n = lookup (nat_eq n) t.objects

abbrev pub tag_in : Table → (u : Bool) → ℕ → Option ℕ
tag_in t true n = lookup (nat_eq n) t.unions
tag_in t false n = lookup (nat_eq n) t.structs
