-- When the regions of a memory hold the types that the type file declares.
use Rattle.std.specs.Prelude.{◌≡◌, ℕ, ℤ, List, [], ◌++◌, length, map, take, drop, All, Contains, Some, slice_get}
use Rattle.cx_base.specs.declared.memory.Region.{Region}
use Rattle.cx_base.specs.Memory.{Valid}
use Rattle.cx_base.specs.Bytes.{AreBytes, number_of}
use Rattle.cx_form.specs.declared.tree.Word.{Word}
use Rattle.cx_form.specs.declared.tree.Struct.{Struct}
use Rattle.cx_form.specs.declared.tree.CFile.{CFile}
use Rattle.cx_form.specs.declared.tree.Argument.{Argument}
use Rattle.cx_form.specs.declared.tree.Argument.TheVariants.{Any, Pointer}
use Rattle.cx_form.specs.declared.tree.Cell.{Cell}
use Rattle.cx_form.specs.declared.tree.RegionType.{RegionType}
use Rattle.cx_form.specs.declared.tree.TypeFile.{TypeFile}
use Rattle.cx_sorts.specs.Names.{struct_of, place_of}
use Rattle.cx_sorts.specs.Layout.{offset_of, struct_size}

-- what is known of a region without a look at its bytes
pub record Extent : Type 0 where
  pub base : ℕ
  pub name : ℕ
  pub args : List ℤ
  pub size : ℕ

abbrev pub extent : Region → Extent
extent r = record { base = r.base; name = r.name; args = r.args; size = length r.bytes }

-- the layout of a memory: its regions without their bytes
abbrev pub layout : List Region → List Extent
layout memory = map extent memory

-- the regions of the first memory stand first in the second, with the same base, name, arguments and size
abbrev pub Extends : List Region → List Region → Type 0
Extends before after = (rest : List Extent) × (layout after ≡ layout before ++ rest)

-- the number is the base of a region of the region type of this name
pub record IsBase (types : TypeFile) (regions : List Extent) (name : Word) (v : ℕ) : Type 0 where
  pub region : Extent
  pub there : Contains regions region
  pub base : region.base ≡ v
  pub named : place_of types name ≡ Some region.name

-- the number holds the type: every number holds `any`, and `ptr NAME` the base of a region of that name
abbrev pub Holds : TypeFile → List Extent → Argument → ℕ → Type 0
Holds types regions Any v = Unit {0}
Holds types regions (Pointer name) v = IsBase types regions name v

-- the number that the 8 bytes at this offset write
unfoldable pub number_at : List ℕ → ℕ → ℕ
number_at bytes offset = number_of (take 8 (drop offset bytes))

-- the 8 bytes at the offset of the cell's member hold the cell: `any8` all bytes do, `ptr NAME` those whose number is the
-- base of a region of that name
pub record HoldsCell (types : TypeFile) (regions : List Extent) (s : Struct) (bytes : List ℕ) (cell : Cell) : Type 0 where
  pub offset : ℕ
  pub of_member : offset_of s cell.member ≡ Some offset
  pub holds : Holds types regions cell.holds (number_at bytes offset)

-- the region holds its type: its name is a place of the type file, it has no arguments, it is as long as that type's
-- struct, and its cells hold their types, whatever the other bytes are
pub record HoldsType (c : CFile) (types : TypeFile) (regions : List Extent) (r : Region) : Type 0 where
  pub type : RegionType
  pub known : slice_get types.regions r.name ≡ Some type
  pub struct : Struct
  pub tagged : struct_of c type.tag ≡ Some struct
  pub args : r.args ≡ []
  pub size : length r.bytes ≡ struct_size struct
  pub bytes : AreBytes r.bytes
  pub cells : All (HoldsCell types regions struct r.bytes) type.cells

-- a memory all of whose regions hold their types
pub record Typed (c : CFile) (types : TypeFile) (memory : List Region) : Type 0 where
  pub valid : Valid memory
  pub holds : All (HoldsType c types (layout memory)) memory
