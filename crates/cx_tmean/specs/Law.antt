-- What follows from the meaning of type files.
use Rattle.std.specs.Prelude.{◌≡◌, ℕ, ℤ, false, List, [], length, Option, Some}
use Rattle.cx_base.specs.declared.memory.Region.{Region}
use Rattle.cx_ctree.specs.Types.{TypeTree}
use Rattle.cx_cells.specs.Layouts.{Extends, layout_of}
use Rattle.cx_tsyn.specs.Items.{RegionItemTree, FuncItemTree, SurfaceTree}
use Rattle.cx_tsyn.specs.Types.{STypeTree}
use Rattle.cx_tmeasure.specs.Known.{Known}
use Rattle.cx_tmeasure.specs.Sizes.{size, has_tail}
use Rattle.cx_tmeasure.specs.BadTypes.{bad_in_type}
use Rattle.cx_tmean.specs.Types.{Beside, TypeHolds}
use Rattle.cx_tmean.specs.Sizes.{type_bytes}
use Rattle.cx_tmean.specs.Memories.{beside, RegionHolds}
use Rattle.cx_tmean.specs.Calls.{ArgsMeet}

-- bytes that hold a region's type in a memory hold it in each memory that extends it
abbrev pub RegionsStayTyped : Type 0
RegionsStayTyped =
    (k : Known) (s : SurfaceTree) (before after : List Region) → Extends before after
    → (r : RegionItemTree) (args : List ℤ) (bytes : List ℕ) → RegionHolds (beside k s (layout_of before)) r args bytes
    → RegionHolds (beside k s (layout_of after)) r args bytes

-- arguments that meet a function's type in a memory meet it in each memory that extends it
abbrev pub ArgumentsStayMet : Type 0
ArgumentsStayMet =
    (k : Known) (s : SurfaceTree) (before after : List Region) → Extends before after
    → (f : FuncItemTree) (zs args : List ℤ) → ArgsMeet (beside k s (layout_of before)) f zs args
    → ArgsMeet (beside k s (layout_of after)) f zs args

-- a type in which no size is wrong and no array has symbolic length takes as many bytes as the C file says, whatever names stand for
abbrev pub TakesFixedSize : Type 0
TakesFixedSize =
    (k : Known) (v : List ℕ → ℤ) (m : Option TypeTree) (t : STypeTree) → bad_in_type k m t ≡ [] → has_tail t ≡ false → type_bytes k v m t ≡ Some (size k m t)

-- and bytes that hold it are as many
abbrev pub HoldsInFixedSize : Type 0
HoldsInFixedSize =
    (b : Beside) (v : List ℕ → ℤ) (m : Option TypeTree) (t : STypeTree) (bytes : List ℕ) → bad_in_type b.known m t ≡ [] → has_tail t ≡ false
    → TypeHolds b v m bytes t → length bytes ≡ size b.known m t
