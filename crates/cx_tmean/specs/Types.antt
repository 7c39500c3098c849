-- When bytes hold a type of a type file. Of the regions only the layout is looked at, never the bytes of another one.
use Rattle.std.specs.Prelude.{◌≡◌, ℕ, ℤ, pos, ◌+◌, Bool, true, false, List, [], ◌++◌, length, slice_range, find, position, ◌==◌, IsSomeAnd, ◌⊎◌, Option, Some, None}
use Rattle.std.specs.List.{AllByRecursion, concat}
use Rattle.std.specs.Str.{bytes_eq}
use Rattle.cx_base.specs.Bytes.{number_of}
use Rattle.cx_base.specs.Number.{wrapped}
use Rattle.cx_ctree.specs.Types as c
use Rattle.cx_ctree.specs.Layouts.{FieldTree, extent_in, fields_of}
use Rattle.cx_cells.specs.Layouts.{Extent, Points}
use Rattle.cx_tsyn.specs.Words.{WordTree}
use Rattle.cx_tsyn.specs.Lins.{LinTree}
use Rattle.cx_tsyn.specs.Cells.{SCellKindTree, any, any_bytes, val, unsigned, signed, ptr}
use Rattle.cx_tsyn.specs.Types.{STypeTree, stype, AtomTree, cell, paren, tagged, product, cases, STypeTrees, no_type, also_type, SFieldTrees, no_field, also_field, SBranchTrees, no_branch, also_branch}
use Rattle.cx_tmeasure.specs.Known.{Known, number_in, tag_place, size_in, tag_size}
use Rattle.cx_tmean.specs.Values.{with_values, lin_value, lin_values, offset_value, RelationHolds}

-- ---- what a type is read beside: what the C file declares, the names of the regions in their order, and the layout

pub record Beside : Type 0 where
  pub known : Known
  pub names : List (List ℕ)
  pub layout : List Extent

-- ---- cells

-- the number of this sign that the bytes write
abbrev pub written : (sign : Bool) → List ℕ → ℤ
written sign bytes = wrapped (length bytes) sign (pos (number_of bytes))

-- a pointer has no sign
abbrev pub sign_of : c.TypeTree → Bool
sign_of c.void = false
sign_of (c.int t) = t.signed
sign_of (c.pointer t) = false
sign_of (c.array t n) = false
sign_of (c.tag n) = false

-- there are as many bytes as the C type has
abbrev pub HasSizeOf : Beside → Option c.TypeTree → List ℕ → Type 0
HasSizeOf b m bytes = size_in b.known m ≡ Some (length bytes)

-- z is the address that many bytes past the base of a region of this name with these arguments, or also 0 where null is true
abbrev pub PointsTo : Beside → WordTree → List ℤ → ℤ → (null : Bool) → ℤ → Type 0
PointsTo b w args off null z = IsSomeAnd (position (bytes_eq w.text) b.names) (λ r. Points b.layout r args off null z)

-- the bytes hold the cell of a member, parameter or result of the C type m
abbrev pub KindHolds : Beside → (List ℕ → ℤ) → (m : Option c.TypeTree) → List ℕ → SCellKindTree → Type 0
KindHolds b v m bytes any = HasSizeOf b m bytes
KindHolds b v m bytes (any_bytes n) = length bytes ≡ n
KindHolds b v m bytes (val e) = HasSizeOf b m bytes × IsSomeAnd m (λ t. written (sign_of t) bytes ≡ lin_value v e)
KindHolds b v m bytes (unsigned n e) = (length bytes ≡ n) × (written false bytes ≡ lin_value v e)
KindHolds b v m bytes (signed n e) = (length bytes ≡ n) × (written true bytes ≡ lin_value v e)
KindHolds b v m bytes (ptr w args off null) = (length bytes ≡ 8) × PointsTo b w (lin_values v args) (offset_value v off) null (written false bytes)

-- ---- types

abbrev pub fields_in : Known → Option ℕ → List FieldTree
fields_in k None = []
fields_in k (Some t) = fields_of k.tags (c.tag t)

abbrev pub field_numbered : List FieldTree → Option ℕ → Option FieldTree
field_numbered fs None = None
field_numbered fs (Some n) = find (λ f. f.name == n) fs

-- the member of this name of the struct, or union where u is true, with its place by the System V ABI
abbrev pub field_named : Known → (u : Bool) → (tag name : WordTree) → Option FieldTree
field_named k u tag name = field_numbered (fields_in k (tag_place k u tag)) (number_in k name)

-- the bytes of the member
abbrev pub bytes_of : Known → FieldTree → List ℕ → List ℕ
bytes_of k f bytes = slice_range bytes f.offset (f.offset + (extent_in k.tags f.ctype).size)

-- with a length: they are so many strings one behind the other, each of which holds the element, which has no C type
abbrev pub InRow : (List ℕ → ℤ) → (times : Option LinTree) → (m : Option c.TypeTree) → (Element : Option c.TypeTree → List ℕ → Type 0) → List ℕ → Type 0
InRow v None m Element bytes = Element m bytes
InRow v (Some l) m Element bytes =
    (rows : List (List ℕ)) × (bytes ≡ concat rows) × (pos (length rows) ≡ lin_value v l) × AllByRecursion (Element None) rows

abbrev mutual
  -- the bytes hold the type of a member, parameter or result of the C type m: for some numbers for which its names stand, they
  -- hold what it is made of, and its conditions are true
  pub TypeHolds : Beside → (List ℕ → ℤ) → (m : Option c.TypeTree) → List ℕ → STypeTree → Type 0
  TypeHolds b v m bytes (stype s ws a n cs) =
      (zs : List ℤ) × (length zs ≡ length ws) × InRow (with_values ws zs v) n m (λ m bytes. AtomHolds b (with_values ws zs v) m bytes a) bytes × AllByRecursion (RelationHolds (with_values ws zs v)) cs

  pub AtomHolds : Beside → (List ℕ → ℤ) → (m : Option c.TypeTree) → List ℕ → AtomTree → Type 0
  AtomHolds b v m bytes (cell x) = KindHolds b v m bytes x.kind
  AtomHolds b v m bytes (paren t) = TypeHolds b v m bytes t
  AtomHolds b v m bytes (tagged u tag fs) = (tag_size b.known u tag ≡ Some (length bytes)) × FieldsHold b v u tag bytes fs
  AtomHolds b v m bytes (product ts a) = OneBehindTheOther b v bytes ts
  AtomHolds b v m bytes (cases bs) = SomeBranchHolds b v m bytes bs

  -- each field's type holds in the bytes of its member; all else are any bytes
  pub FieldsHold : Beside → (List ℕ → ℤ) → (u : Bool) → (tag : WordTree) → List ℕ → SFieldTrees → Type 0
  FieldsHold b v u tag bytes no_field = Unit {0}
  FieldsHold b v u tag bytes (also_field f t fs) =
      IsSomeAnd (field_named b.known u tag f) (λ m. TypeHolds b v (Some m.ctype) (bytes_of b.known m bytes) t) × FieldsHold b v u tag bytes fs

  pub OneBehindTheOther : Beside → (List ℕ → ℤ) → List ℕ → STypeTrees → Type 0
  OneBehindTheOther b v bytes no_type = bytes ≡ []
  OneBehindTheOther b v bytes (also_type t ts) =
      (front : List ℕ) × (back : List ℕ) × (bytes ≡ front ++ back) × TypeHolds b v None front t × OneBehindTheOther b v back ts

  -- the guard of some branch is true, and they hold its type
  pub SomeBranchHolds : Beside → (List ℕ → ℤ) → (m : Option c.TypeTree) → List ℕ → SBranchTrees → Type 0
  SomeBranchHolds b v m bytes no_branch = ⊥
  SomeBranchHolds b v m bytes (also_branch g t bs) =
      (AllByRecursion (RelationHolds v) g × TypeHolds b v m bytes t) ⊎ SomeBranchHolds b v m bytes bs
