-- What ordinary names are declared as, each with its number, in the order in which they are looked up.
use Rattle.std.specs.Prelude.{ℕ, ℤ, Bool, true, false, ◌&&◌, IsTrue, nat_eq, List, [], ◌∷◌, ◌++◌, map, Option, Some, None}
use Rattle.std.specs.List.{flat_map}
use Rattle.std.specs.Map.{lookup}
use Rattle.std.specs.Ordering.{int_eq}
use Rattle.cx_ctree.specs.Types.{TypeTree}
use Rattle.cx_ctree.specs.Decls.{DeclTree, types, object, proto, function}
use Rattle.cx_ctree.specs.declared.unit.Unit.{Unit}
use Rattle.cx_cname.specs.Known.{Meaning, a_type, a_constant, an_object, a_function, function_type}
use Rattle.cx_cname.specs.Meanings.{same_type, same_types}
use Rattle.cx_sname.specs.File.{Declared, declared_of, meaning_of}
use Rattle.cx_sname.specs.Meanings.{meaning_tree}
use Rattle.cx_sname.specs.declared.meaning.Meaning as code

abbrev pub of_typedefs : List (ℕ × TypeTree) → List (ℕ × Meaning)
of_typedefs ts = map (λ t. (t.0, a_type t.1)) ts

abbrev pub of_constants : List (ℕ × ℤ) → List (ℕ × Meaning)
of_constants cs = map (λ c. (c.0, a_constant c.1)) cs

abbrev pub of_decl : DeclTree → List (ℕ × Meaning)
of_decl types = []
of_decl (object n t) = (n, an_object t) ∷ []
of_decl (proto s) = (s.name, function_type s) ∷ []
of_decl (function f) = (f.sig.name, function_type f.sig) ∷ []

abbrev pub of_decls : List DeclTree → List (ℕ × Meaning)
of_decls ds = flat_map of_decl ds

-- types first, then constants, then objects and functions
abbrev pub entries_of : Declared → List (ℕ × Meaning)
entries_of env = of_typedefs env.known.typedefs ++ (of_constants env.known.consts ++ of_decls env.decls)

-- the entries as the code holds them
abbrev pub seen_meanings : List (ℕ × code.Meaning) → List (ℕ × Meaning)
seen_meanings es = map (λ e. (e.0, meaning_tree e.1)) es

-- the same meaning, as a test
abbrev pub same_meaning : Meaning → Meaning → Bool
same_meaning (a_type t) (a_type w) = same_type t w
same_meaning (a_constant v) (a_constant w) = int_eq v w
same_meaning (an_object t) (an_object w) = same_type t w
same_meaning (a_function t ts) (a_function w ws) = same_type t w && same_types ts ws
same_meaning _ _ = false

abbrev pub same_found : Option Meaning → Option Meaning → Bool
same_found None None = true
same_found (Some m) (Some w) = same_meaning m w
same_found _ _ = false

-- each name is found among the entries with what it is declared as
abbrev pub FindsAll : Unit → List (ℕ × code.Meaning) → Type 0
FindsAll u es = (n : ℕ) → IsTrue (same_found (lookup (nat_eq n) (seen_meanings es)) (meaning_of (declared_of u) n))
