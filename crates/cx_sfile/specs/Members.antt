-- The types of the members of structs and unions, each with the number of its name.
use Rattle.std.specs.Prelude.{ℕ, Bool, true, false, IsTrue, nat_eq, List, [], map, Option, Some, None, slice_get}
use Rattle.std.specs.Map.{lookup}
use Rattle.std.specs.Option.{option_and_then}
use Rattle.cx_ctree.specs.Types.{TypeTree, tag}
use Rattle.cx_ctree.specs.Decls.{MemberTree, TagTree}
use Rattle.cx_ctree.specs.declared.unit.Unit.{Unit}
use Rattle.cx_cname.specs.Known.{known_of}
use Rattle.cx_cname.specs.Meanings.{same_type}
use Rattle.cx_ctype.specs.Accesses.{member_type}

abbrev pub types_of : List MemberTree → List (ℕ × TypeTree)
types_of ms = map (λ m. (m.name, m.ctype)) ms

-- none where the struct or union has no members
abbrev pub if_declared : Option (List MemberTree) → List (ℕ × TypeTree)
if_declared None = []
if_declared (Some ms) = types_of ms

abbrev pub members_in : TagTree → List (ℕ × TypeTree)
members_in t = if_declared t.members

-- the same type or none, as a test
abbrev pub same_or_none : Option TypeTree → Option TypeTree → Bool
same_or_none None None = true
same_or_none (Some t) (Some w) = same_type t w
same_or_none _ _ = false

-- the type under this name among those at this place
abbrev pub found_at : List (List (ℕ × TypeTree)) → (place name : ℕ) → Option TypeTree
found_at all k n = option_and_then (λ es. lookup (nat_eq n) es) (slice_get all k)

-- each member of a struct or union is found at the place of its tag
abbrev pub FindsMembers : Unit → List (List (ℕ × TypeTree)) → Type 0
FindsMembers u all = (k n : ℕ) → IsTrue (same_or_none (found_at all k n) (member_type (known_of u) (tag k) n))
