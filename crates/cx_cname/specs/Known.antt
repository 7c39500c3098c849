-- The names that are declared where a text stands (C11 6.2.1), and what may be declared beside them.
use Rattle.std.specs.Prelude.{◌≡◌, ℕ, suc, ℤ, Bool, true, false, ◌==◌, nat_lt, List, [], ◌∷◌, ◌++◌, map, Option, Some, None, is_some, option_map, slice_get, slice_set, position, if◌then◌else◌, MatchOption, ⊤}
use Rattle.std.specs.List.{list_any}
use Rattle.cx_ctree.specs.Types.{TypeTree, void, int, pointer, array, tag, type_tree}
use Rattle.cx_ctree.specs.Decls.{MemberTree, TagTree, SignatureTree, DeclTree, types, object, proto, function, ItemTree, known, passed, item_tree}
use Rattle.cx_ctree.specs.Units.{tags_of}
use Rattle.cx_ctree.specs.declared.unit.Unit.{Unit}
use Rattle.cx_ctree.specs.Path.{greatest}
use Rattle.cx_ctree.specs.Tags.{rank_of}

-- what the declarations so far declare as types and as constants
pub record Known : Type 0 where
  pub tags : List TagTree
  pub typedefs : List (ℕ × TypeTree)
  pub consts : List (ℕ × ℤ)
  -- the names of the enumerations whose list is declared
  pub enums : List ℕ

-- ---- ordinary names (C11 6.2.3): typedefs, constants, objects and functions have one name space

abbrev pub value_of : {A : Type 0} → ℕ → List (ℕ × A) → Option A
value_of n [] = None
value_of n (e ∷ es) = if e.0 == n then Some e.1 else value_of n es

abbrev pub names_type : Known → ℕ → Bool
names_type env n = is_some (value_of n env.typedefs)

-- what an ordinary name is declared as; the names of parameters are no part of a function's type
pub data Meaning : Type 0 where
  a_type : TypeTree → Meaning
  a_constant : ℤ → Meaning
  an_object : TypeTree → Meaning
  a_function : (result : TypeTree) → (params : List TypeTree) → Meaning

abbrev pub function_type : SignatureTree → Meaning
function_type s = a_function s.result (map (λ p. p.ctype) s.params)

-- the object or function of this name that the declarations declare, by its first declaration
abbrev pub declared_as : ℕ → List DeclTree → Option Meaning
declared_as n [] = None
declared_as n (types ∷ ds) = declared_as n ds
declared_as n (object m t ∷ ds) = if m == n then Some (an_object t) else declared_as n ds
declared_as n (proto s ∷ ds) = if s.name == n then Some (function_type s) else declared_as n ds
declared_as n (function f ∷ ds) = if f.sig.name == n then Some (function_type f.sig) else declared_as n ds

abbrev pub or_else : Option Meaning → Option Meaning → Option Meaning
or_else None other = other
or_else (Some m) other = Some m

-- what the name is declared as, where `earlier` are the declarations of objects and functions
abbrev pub meaning : Known → (earlier : List DeclTree) → ℕ → Option Meaning
meaning env earlier n =
    or_else (option_map a_type (value_of n env.typedefs))
    (or_else (option_map a_constant (value_of n env.consts)) (declared_as n earlier))

-- the name is new, or declared as the same: a typedef, an object and a function may be declared again
abbrev pub MayBe : Known → (earlier : List DeclTree) → ℕ → Meaning → Type 0
MayBe env earlier n m = MatchOption (meaning env earlier n) ⊤ (λ old. old ≡ m)

abbrev pub with_typedef : Known → ℕ → TypeTree → Known
with_typedef env n t = record env { typedefs = env.typedefs ++ (n, t) ∷ [] }

abbrev pub with_constant : Known → ℕ → ℤ → Known
with_constant env n v = record env { consts = env.consts ++ (n, v) ∷ [] }

-- ---- tags (C11 6.7.2.3)

abbrev pub has_name : ℕ → Option ℕ → Bool
has_name n None = false
has_name n (Some m) = m == n

-- the place of the struct or union of this name
abbrev pub tag_place : Known → ℕ → Option ℕ
tag_place env n = position (λ t. has_name n t.name) env.tags

-- the place k has a struct, or a union where u is true
abbrev pub HasKind : Known → ℕ → Bool → Type 0
HasKind env k u = option_map (λ t. t.union_) (slice_get env.tags k) ≡ Some u

abbrev pub undeclared_members : Option ℕ → Bool → TagTree
undeclared_members name u = record { name = name; union_ = u; rank = 0; members = None }

abbrev pub with_tag : Known → Option ℕ → Bool → Known
with_tag env name u = record env { tags = env.tags ++ undeclared_members name u ∷ [] }

-- with members declared at the place k, as the last such declaration so far
abbrev pub with_members : Known → ℕ → Option ℕ → Bool → List MemberTree → Known
with_members env k name u ms =
    record env { tags = slice_set env.tags k (record { name = name; union_ = u; rank = suc (greatest (λ t. t.rank) env.tags); members = Some ms }) }

abbrev pub with_enum : Known → ℕ → Known
with_enum env n = record env { enums = env.enums ++ n ∷ [] }

abbrev pub names_enum : Known → ℕ → Bool
names_enum env n = list_any (λ m. m == n) env.enums

-- the type is complete (C11 6.2.5): not void, and with members in each tag in it, other than behind a pointer
abbrev pub is_complete : Known → TypeTree → Bool
is_complete env void = false
is_complete env (int t) = true
is_complete env (pointer t) = true
is_complete env (array t n) = is_complete env t
is_complete env (tag k) = nat_lt 0 (rank_of env.tags k)

-- ---- units

abbrev pub declared_by : List ItemTree → List DeclTree
declared_by [] = []
declared_by (known ds ∷ items) = ds ++ declared_by items
declared_by (passed s ∷ items) = declared_by items

-- what the unit declares as types and constants, and its declarations in order
abbrev pub known_of : Unit → Known
known_of u = record { tags = tags_of u; typedefs = map (λ t. (t.0, type_tree t.1)) u.typedefs; consts = u.consts; enums = u.enums }

abbrev pub earlier_of : Unit → List DeclTree
earlier_of u = declared_by (map item_tree u.items)
