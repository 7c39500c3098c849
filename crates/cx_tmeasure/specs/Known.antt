-- What the sizes of a type file are judged beside: what the C file declares.
use Rattle.std.specs.Prelude.{ℕ, Bool, true, false, ◌==◌, List, [], ◌∷◌, Option, Some, None, option_map, option_and_then, position, slice_get, find}
use Rattle.std.specs.Str.{bytes_eq}
use Rattle.cx_ctree.specs.Types.{TypeTree, tag}
use Rattle.cx_ctree.specs.Decls.{MemberTree, TagTree, SignatureTree}
use Rattle.cx_ctree.specs.Layouts.{size_of}
use Rattle.cx_ctree.specs.Units.{UnitTree}
use Rattle.cx_tsyn.specs.Words.{WordTree}
use Rattle.cx_ctable.specs.Tables.{Table, table_of, function_in, object_in, tag_in}

pub record Known : Type 0 where
  -- the names of the C file, and what it declares by their numbers
  pub names : List (List ℕ)
  pub table : Table
  pub tags : List TagTree

abbrev pub known_in : UnitTree → Known
known_in u = record { names = u.names; table = table_of u; tags = u.tags }

-- the number of the word's name in the C file
abbrev pub number_in : Known → WordTree → Option ℕ
number_in k w = position (bytes_eq w.text) k.names

-- the function of this name, where the C file declares it
abbrev pub function_of : Known → WordTree → Option SignatureTree
function_of k w = option_and_then (function_in k.table) (number_in k w)

-- the type of the object of this name
abbrev pub object_of : Known → WordTree → Option TypeTree
object_of k w = option_and_then (object_in k.table) (number_in k w)

-- the place of this struct, or union where u is true, in the tags of the C file
abbrev pub tag_place : Known → (u : Bool) → WordTree → Option ℕ
tag_place k u w = option_and_then (tag_in k.table u) (number_in k w)

abbrev pub declared_members : Option (List MemberTree) → List MemberTree
declared_members None = []
declared_members (Some ms) = ms

abbrev pub members_in : Option TagTree → List MemberTree
members_in None = []
members_in (Some t) = declared_members t.members

-- its members in order
abbrev pub members_of : Known → (u : Bool) → WordTree → List MemberTree
members_of k u w = members_in (option_and_then (slice_get k.tags) (tag_place k u w))

-- the size of a type of C that has a layout
abbrev pub size_in : Known → Option TypeTree → Option ℕ
size_in k None = None
size_in k (Some t) = size_of k.tags t

abbrev pub tag_size : Known → (u : Bool) → WordTree → Option ℕ
tag_size k u w = size_in k (option_map tag (tag_place k u w))

-- ---- members

abbrev pub first_member : List MemberTree → Option MemberTree
first_member [] = None
first_member (m ∷ ms) = Some m

abbrev pub member_named : Option ℕ → List MemberTree → Option MemberTree
member_named None ms = None
member_named (Some n) ms = find (λ m. m.name == n) ms

-- the member that a field is for, where these are left: of a struct the next one, of a union the one of its name
abbrev pub member_for : Known → (u : Bool) → List MemberTree → WordTree → Option MemberTree
member_for k true ms f = member_named (number_in k f) ms
member_for k false ms f = first_member ms

abbrev pub behind : (u : Bool) → List MemberTree → List MemberTree
behind true ms = ms
behind false [] = []
behind false (m ∷ ms) = ms
