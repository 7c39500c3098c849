-- The size and alignment that the unit keeps of each struct and union.
use Rattle.std.specs.Prelude.{ℕ, ◌≡◌, List, map, slice_get, Result, Ok, Err, Some, None}
use Rattle.cx_ctree.specs.Types.{tag}
use Rattle.cx_ctree.specs.Decls.{tag_tree}
use Rattle.cx_ctree.specs.Layouts.{Shape, Extent, extent_of, first_too_big, shape_of}
use Rattle.cx_ctree.specs.declared.extent.Extent as code
use Rattle.cx_ctree.specs.declared.decl.Tag.{Tag}

-- the size and alignment as numbers
abbrev pub extent : code.Extent → Extent
extent e = record { size = e.size; align = e.align }

-- the size and alignment of a type without a part that is too big, or the first such part
abbrev pub IsExtent : Shape → Result code.Extent ℕ → Type 0
IsExtent s (Ok e) = (first_too_big s ≡ None) × (extent_of s ≡ extent e)
IsExtent s (Err k) = first_too_big s ≡ Some k

-- each tag has the extent of what it consists of
abbrev pub AreMeasured : List Tag → Type 0
AreMeasured tags = (k : ℕ) (t : Tag) → slice_get tags k ≡ Some t → IsExtent (shape_of (map tag_tree tags) (tag k)) t.extent
