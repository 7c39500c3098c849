-- Typed memories: those in which each region's bytes hold its type.
use Rattle.std.specs.Prelude.{List, All, slice_get, IsSomeAnd}
use Rattle.cx_base.specs.Bytes.{AreBytes}
use Rattle.cx_base.specs.Memory.{Valid}
use Rattle.cx_base.specs.declared.memory.Region.{Region}
use Rattle.cx_cells.specs.Layouts.{Extent, layout_of}
use Rattle.cx_cells.specs.Meaning.{FormHolds}
use Rattle.cx_cells.specs.declared.form.Form.{Form}

-- the regions are a memory: a valid list, whose bytes are numbers below 256
pub record IsMemory (regions : List Region) : Type 0 where
  pub valid : Valid regions
  pub bytes : All (λ r. AreBytes r.bytes) regions

-- the region's bytes hold the form at its name, for its arguments; where no form is there they hold none
abbrev pub RegionHolds : List Form → List Extent → Region → Type 0
RegionHolds forms layout r = IsSomeAnd (slice_get forms r.name) (λ form. FormHolds form r.args layout r.bytes)

-- the regions are a memory, and each one's bytes hold its type in its layout
pub record Typed (forms : List Form) (regions : List Region) : Type 0 where
  pub memory : IsMemory regions
  pub holds : All (RegionHolds forms (layout_of regions)) regions
