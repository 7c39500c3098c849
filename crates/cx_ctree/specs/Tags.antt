-- Struct and union types inside one another.
use Rattle.std.specs.Prelude.{ℕ, Bool, false, true, ◌==◌, ◌&&◌, nat_lt, List, Option, Some, None, slice_get, IsTrue}
use Rattle.std.specs.List.{list_all}
use Rattle.std.specs.Option.{option_map_or}
use Rattle.cx_ctree.specs.Types.{TypeTree, void, int, pointer, array, tag}
use Rattle.cx_ctree.specs.Decls.{MemberTree, TagTree}

-- which declaration of members the tag k has, counted from 1; 0 where it has none
abbrev pub rank_of : List TagTree → ℕ → ℕ
rank_of tags k = option_map_or (λ t. t.rank) (slice_get tags k) 0

-- a type for a member of a tag of rank r: it is complete (C11 6.7.2.1), and what it contains other than behind a pointer is of lower rank
abbrev pub is_below : List TagTree → ℕ → TypeTree → Bool
is_below tags r void = false
is_below tags r (int t) = true
is_below tags r (pointer t) = true
is_below tags r (array t n) = is_below tags r t
is_below tags r (tag k) = nat_lt 0 (rank_of tags k) && nat_lt (rank_of tags k) r

abbrev pub ranks : List TagTree → ℕ → Option (List MemberTree) → Bool
ranks tags r None = r == 0
ranks tags r (Some ms) = nat_lt 0 r && list_all (λ m. is_below tags r m.ctype) ms

-- each tag with members has a rank above those of the tags in it
abbrev pub AreRanked : List TagTree → Type 0
AreRanked tags = IsTrue (list_all (λ t. ranks tags t.rank t.members) tags)
