-- The layout of types by the System V AMD64 ABI (3.1.2), in bytes. Numbers are whole numbers without a bound.
use Rattle.std.specs.Prelude.{ℕ, zero, suc, ◌+◌, ◌-◌, ◌*◌, ◌/◌, ◌^◌, max, nat_lt, if◌then◌else◌, Bool, true, false, List, [], ◌∷◌, Option, Some, None, option_map, slice_get, find, ◌==◌, ◌≡◌}
use Rattle.cx_ctree.specs.Types.{TypeTree, void, int, pointer, array, tag}
use Rattle.cx_ctree.specs.Decls.{MemberTree, TagTree}
use Rattle.cx_ctree.specs.Tags.{rank_of}

-- What a type consists of: the tags in it, other than behind pointers, are written out.
mutual
  pub data Shape : Type 0 where
    nothing : Shape
    scalar : (size : ℕ) → Shape
    elements : Shape → (count : ℕ) → Shape
    undeclared : (tag : ℕ) → Shape
    declared : (tag : ℕ) → (union_ : Bool) → Shapes → Shape

  -- members in order
  pub data Shapes : Type 0 where
    no_member : Shapes
    also_member : Shape → Shapes → Shapes

-- ---- what a type consists of

-- a type, where it is said what each tag consists of
abbrev pub shape_by : (ℕ → Shape) → TypeTree → Shape
shape_by of_tag void = nothing
shape_by of_tag (int t) = scalar t.size
shape_by of_tag (pointer t) = scalar 8
shape_by of_tag (array t n) = elements (shape_by of_tag t) n
shape_by of_tag (tag k) = of_tag k

abbrev pub shapes_by : (ℕ → Shape) → List MemberTree → Shapes
shapes_by of_tag [] = no_member
shapes_by of_tag (m ∷ ms) = also_member (shape_by of_tag m.ctype) (shapes_by of_tag ms)

abbrev pub members_by : (ℕ → Shape) → ℕ → Bool → Option (List MemberTree) → Shape
members_by of_tag k u None = undeclared k
members_by of_tag k u (Some ms) = declared k u (shapes_by of_tag ms)

abbrev pub found_by : (ℕ → Shape) → ℕ → Option TagTree → Shape
found_by of_tag k None = undeclared k
found_by of_tag k (Some t) = members_by of_tag k t.union_ t.members

-- the tag k, where tags stand in one another to the depth n
abbrev pub tag_shape : List TagTree → ℕ → ℕ → Shape
tag_shape tags zero k = undeclared k
tag_shape tags (suc n) k = found_by (tag_shape tags n) k (slice_get tags k)

-- a type; a tag's rank is above those of the tags in it, so they stand in one another to that depth
abbrev pub shape_of : List TagTree → TypeTree → Shape
shape_of tags t = shape_by (λ k. tag_shape tags (rank_of tags k) k) t

-- ---- sizes

-- how many bytes a type takes, and of what its addresses are multiples
pub record Extent : Type 0 where
  pub size : ℕ
  pub align : ℕ

-- the least multiple of align from n on
abbrev pub round_up : (align n : ℕ) → ℕ
round_up align n = (n + (align - 1)) / align * align

-- where the next member stands, if those before it end at `from`: a union's stand at 0
abbrev pub place : (union_ : Bool) → ℕ → Extent → ℕ
place false from e = round_up e.align from
place true from e = 0

-- where the members up to and with the next one end
abbrev pub past : (union_ : Bool) → ℕ → Extent → ℕ
past u from e = max from (place u from e + e.size)

abbrev mutual
  pub extent_of : Shape → Extent
  extent_of nothing = record { size = 0; align = 1 }
  extent_of (scalar n) = record { size = n; align = n }
  extent_of (elements s n) = record { size = n * (extent_of s).size; align = (extent_of s).align }
  extent_of (undeclared k) = record { size = 0; align = 1 }
  extent_of (declared k u ss) = record { size = round_up (align_of ss) (end_of u 0 ss); align = align_of ss }

  -- the greatest alignment of the members
  pub align_of : Shapes → ℕ
  align_of no_member = 1
  align_of (also_member s ss) = max (extent_of s).align (align_of ss)

  -- where the members end, if those before them end at `from`
  pub end_of : (union_ : Bool) → ℕ → Shapes → ℕ
  end_of u from no_member = from
  end_of u from (also_member s ss) = end_of u (past u from (extent_of s)) ss

-- ---- types without a layout

abbrev pub or_else : Option ℕ → Option ℕ → Option ℕ
or_else None other = other
or_else (Some k) other = Some k

abbrev mutual
  -- the first tag without members in a type, or 0 for void
  pub first_incomplete : Shape → Option ℕ
  first_incomplete nothing = Some 0
  first_incomplete (scalar n) = None
  first_incomplete (elements s n) = first_incomplete s
  first_incomplete (undeclared k) = Some k
  first_incomplete (declared k u ss) = first_incomplete_in ss

  pub first_incomplete_in : Shapes → Option ℕ
  first_incomplete_in no_member = None
  first_incomplete_in (also_member s ss) = or_else (first_incomplete s) (first_incomplete_in ss)

-- no object has more bytes
abbrev pub most_bytes : ℕ
most_bytes = 2 ^ 31

abbrev pub if_too_big : ℕ → ℕ → Option ℕ
if_too_big size k = if nat_lt most_bytes size then Some k else None

abbrev mutual
  -- the first type of more bytes in a type, parts before wholes: its tag, or 0 for an array
  pub first_too_big : Shape → Option ℕ
  first_too_big nothing = None
  first_too_big (scalar n) = None
  first_too_big (elements s n) = or_else (first_too_big s) (if_too_big (extent_of (elements s n)).size 0)
  first_too_big (undeclared k) = None
  first_too_big (declared k u ss) = or_else (first_too_big_in ss) (if_too_big (extent_of (declared k u ss)).size k)

  pub first_too_big_in : Shapes → Option ℕ
  first_too_big_in no_member = None
  first_too_big_in (also_member s ss) = or_else (first_too_big s) (first_too_big_in ss)

-- the size and alignment of a type
abbrev pub extent_in : List TagTree → TypeTree → Extent
extent_in tags t = extent_of (shape_of tags t)

-- the type has a layout
pub record HasLayout (tags : List TagTree) (t : TypeTree) : Type 0 where
  pub complete : first_incomplete (shape_of tags t) ≡ None
  pub fits : first_too_big (shape_of tags t) ≡ None

-- the type has no layout, since it is void, with k = 0, or the tag k in it is the first without members
abbrev pub IsIncomplete : List TagTree → TypeTree → ℕ → Type 0
IsIncomplete tags t k = first_incomplete (shape_of tags t) ≡ Some k

-- the type is complete and has no layout, since the tag k in it, or an array, with k = 0, is the first that is too big
pub record IsTooBig (tags : List TagTree) (t : TypeTree) (k : ℕ) : Type 0 where
  pub complete : first_incomplete (shape_of tags t) ≡ None
  pub first : first_too_big (shape_of tags t) ≡ Some k

-- ---- layouts

abbrev pub shapes_of : List TagTree → List MemberTree → Shapes
shapes_of tags ms = shapes_by (λ k. shape_of tags (tag k)) ms

-- a member with its place, in bytes from the first byte of its struct or union
pub record FieldTree : Type 0 where
  pub name : ℕ
  pub offset : ℕ
  pub ctype : TypeTree

-- the members, if those before them end at `from`
abbrev pub fields_from : List TagTree → (union_ : Bool) → ℕ → List MemberTree → List FieldTree
fields_from tags u from [] = []
fields_from tags u from (m ∷ ms) =
    record { name = m.name; offset = place u from (extent_in tags m.ctype); ctype = m.ctype }
    ∷ fields_from tags u (past u from (extent_in tags m.ctype)) ms

abbrev pub members_fields : List TagTree → (union_ : Bool) → Option (List MemberTree) → List FieldTree
members_fields tags u None = []
members_fields tags u (Some ms) = fields_from tags u 0 ms

abbrev pub tag_fields : List TagTree → Option TagTree → List FieldTree
tag_fields tags None = []
tag_fields tags (Some t) = members_fields tags t.union_ t.members

-- the members of a struct or union with their places; none for another type
abbrev pub fields_of : List TagTree → TypeTree → List FieldTree
fields_of tags (tag k) = tag_fields tags (slice_get tags k)
fields_of tags _ = []

-- a value where the type has a layout
abbrev pub unless : {A : Type 0} → Option ℕ → Option A → Option A
unless None value = value
unless (Some k) value = None

abbrev pub if_laid_out : {A : Type 0} → Shape → Option A → Option A
if_laid_out s value = unless (first_incomplete s) (unless (first_too_big s) value)

-- the size of a type that has a layout
abbrev pub size_of : List TagTree → TypeTree → Option ℕ
size_of tags t = if_laid_out (shape_of tags t) (Some (extent_in tags t).size)

-- the place of the member of this name of the tag k, where it has a layout and such a member
abbrev pub offset_of : List TagTree → ℕ → (name : ℕ) → Option ℕ
offset_of tags k name = if_laid_out (shape_of tags (tag k)) (option_map (λ f. f.offset) (find (λ f. f.name == name) (fields_of tags (tag k))))
