-- What a name may be declared as, as tests.
use Rattle.std.specs.Prelude.{ℕ, Bool, true, false, not, ◌&&◌, ◌==◌, List, [], ◌∷◌, Option, Some, None, is_some, slice_get, if◌then◌else◌}
use Rattle.std.specs.List.{list_all}
use Rattle.std.specs.Option.{option_map_or}
use Rattle.cx_ctree.specs.Types.{TypeTree, void, int, pointer, array, tag}
use Rattle.cx_ctree.specs.Decls.{MemberTree, DeclTree, types, object, proto, function}
use Rattle.cx_cname.specs.Known.{Known, Meaning, a_type, an_object, a_function, function_type, meaning, is_complete}

abbrev pub same_sign : Bool → Bool → Bool
same_sign true s = s
same_sign false s = not s

abbrev pub same_type : TypeTree → TypeTree → Bool
same_type void void = true
same_type (int t) (int w) = (t.size == w.size) && same_sign t.signed w.signed
same_type (pointer t) (pointer w) = same_type t w
same_type (array t n) (array w m) = (n == m) && same_type t w
same_type (tag k) (tag j) = k == j
same_type _ _ = false

abbrev pub same_types : List TypeTree → List TypeTree → Bool
same_types [] [] = true
same_types (t ∷ ts) (w ∷ ws) = same_type t w && same_types ts ws
same_types _ _ = false

-- no constant is declared as the same again
abbrev pub same_meaning : Meaning → Meaning → Bool
same_meaning (a_type t) (a_type w) = same_type t w
same_meaning (an_object t) (an_object w) = same_type t w
same_meaning (a_function t ts) (a_function w ws) = same_type t w && same_types ts ws
same_meaning _ _ = false

abbrev pub is_new : Known → (earlier : List DeclTree) → ℕ → Bool
is_new env earlier n = not (is_some (meaning env earlier n))

-- the name is new, or declared as the same
abbrev pub may_be : Known → (earlier : List DeclTree) → ℕ → Meaning → Bool
may_be env earlier n m = option_map_or (λ old. same_meaning old m) (meaning env earlier n) true

abbrev pub has_members : Known → ℕ → Bool
has_members env at = option_map_or (λ t. is_some t.members) (slice_get env.tags at) false

-- the declaration is one of this name
abbrev pub declares : ℕ → DeclTree → Bool
declares n types = false
declares n (object m t) = m == n
declares n (proto s) = s.name == n
declares n (function f) = f.sig.name == n

-- the first declaration of this name
abbrev pub found : ℕ → List DeclTree → Option DeclTree
found n [] = None
found n (d ∷ ds) = if declares n d then Some d else found n ds

abbrev pub found_first : Option DeclTree → Option DeclTree → Option DeclTree
found_first None other = other
found_first (Some d) other = Some d

-- what a declaration that has a name declares it as
abbrev pub declared_by_it : Option DeclTree → Option Meaning
declared_by_it None = None
declared_by_it (Some types) = None
declared_by_it (Some (object m t)) = Some (an_object t)
declared_by_it (Some (proto s)) = Some (function_type s)
declared_by_it (Some (function f)) = Some (function_type f.sig)

-- the tag at this place may get these members: it has none, and their types are complete
abbrev pub may_have : Known → ℕ → List MemberTree → Bool
may_have env at ms = not (has_members env at) && list_all (λ m. is_complete env m.ctype) ms
