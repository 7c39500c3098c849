-- Typed memories: those in which each region's bytes hold its type. A region's name is the place of its type among the region types
-- of the file.
use Rattle.std.specs.Prelude.{◌≡◌, ℕ, ℤ, List, [], ◌∷◌, map, length, All, slice_get, IsSomeAnd, None}
use Rattle.cx_base.specs.declared.memory.Region.{Region}
use Rattle.cx_cells.specs.Layouts.{Extent, layout_of}
use Rattle.cx_cells.specs.Typing.{IsMemory}
use Rattle.cx_tsyn.specs.Items.{RegionItemTree, TypeItemTree, region, func, alloc, global, SurfaceTree}
use Rattle.cx_tmeasure.specs.Known.{Known}
use Rattle.cx_tmean.specs.Values.{no_values, with_values}
use Rattle.cx_tmean.specs.Types.{Beside, TypeHolds}

-- the region types in order
abbrev pub regions_in : List TypeItemTree → List RegionItemTree
regions_in [] = []
regions_in (region r ∷ is) = r ∷ regions_in is
regions_in (func f ∷ is) = regions_in is
regions_in (alloc f ∷ is) = regions_in is
regions_in (global g ∷ is) = regions_in is

abbrev pub names_of : List RegionItemTree → List (List ℕ)
names_of rs = map (λ r. r.name.text) rs

abbrev pub beside : Known → SurfaceTree → List Extent → Beside
beside k s layout = record { known = k; names = names_of (regions_in s.items); layout = layout }

-- the bytes hold the region's type for these arguments
pub record RegionHolds (b : Beside) (r : RegionItemTree) (args : List ℤ) (bytes : List ℕ) : Type 0 where
  pub given : length args ≡ length r.params
  pub body : TypeHolds b (with_values r.params args no_values) None bytes r.body

-- a region whose name is no place among the region types holds none
abbrev pub HoldsItsType : Known → SurfaceTree → List Extent → Region → Type 0
HoldsItsType k s layout r = IsSomeAnd (slice_get (regions_in s.items) r.name) (λ item. RegionHolds (beside k s layout) item r.args r.bytes)

-- the regions are a memory, and each one's bytes hold its type in its layout
pub record Typed (k : Known) (s : SurfaceTree) (regions : List Region) : Type 0 where
  pub memory : IsMemory regions
  pub holds : All (HoldsItsType k s (layout_of regions)) regions
