-- Which symbols a cell names, and how it tells one of them.
use Rattle.std.specs.Prelude.{ℕ, pos, ◌-ℤ◌, List, length, Bool, false, not, ◌||◌, ◌&&◌, ◌==◌, if◌then◌else◌, Option, Some, None, is_some, position, slice_get}
use Rattle.cx_term.specs.Forms.{Linear}
use Rattle.cx_term.specs.Sums.{is_zero}
use Rattle.cx_term.specs.Replaced.{coefficient}
use Rattle.cx_cells.specs.declared.cell.CellKind.{CellKind}
use Rattle.cx_cells.specs.declared.cell.CellKind.TheVariants.{Any, Val, Ptr}
use Rattle.cx_cells.specs.declared.cell.FlatCell.{FlatCell}
use Rattle.cx_cells.specs.declared.telling.Told.{Told}
use Rattle.cx_cells.specs.declared.telling.Told.TheVariants.{Value, Argument}

-- the term names the symbol
abbrev pub term_names : ℕ → Linear → Bool
term_names s t = not (is_zero (coefficient s t.parts))

-- the cell's term, or one of its terms, names it
abbrev pub kind_names : ℕ → CellKind → Bool
kind_names s Any = false
kind_names s (Val signed u) = term_names s u
kind_names s (Ptr name args off null) = is_some (position (term_names s) args) || term_names s off

-- the term is the symbol
abbrev pub is_symbol : ℕ → Linear → Bool
is_symbol s t = is_zero t.konst && (length t.parts == 1 && is_zero (coefficient s t.parts -ℤ pos 1))

-- the term is a number
abbrev pub is_number : Linear → Bool
is_number t = length t.parts == 0

-- the argument at this place tells the symbol, where it is the symbol
abbrev pub told_argument : ℕ → ℕ → Option Linear → Option Told
told_argument s i None = None
told_argument s i (Some t) = if is_symbol s t then Some (Argument i) else None

abbrev pub told_at : ℕ → List Linear → Option ℕ → Option Told
told_at s args None = None
told_at s args (Some i) = told_argument s i (slice_get args i)

-- how the cell tells the symbol: as its whole value; or as a whole argument, the first that names it, of a pointer that is
-- not null and whose offset is a number
abbrev pub told_by : ℕ → CellKind → Option Told
told_by s Any = None
told_by s (Val signed u) = if is_symbol s u then Some Value else None
told_by s (Ptr name args off null) = if not null && is_number off then told_at s args (position (term_names s) args) else None

abbrev pub placed : ℕ → Option Told → Option (ℕ × Told)
placed i None = None
placed i (Some w) = Some (i, w)

abbrev pub telling_in : ℕ → ℕ → Option CellKind → Option (ℕ × Told)
telling_in s i None = None
telling_in s i (Some k) = placed i (told_by s k)

abbrev pub telling_at : ℕ → List CellKind → Option ℕ → Option (ℕ × Told)
telling_at s kinds None = None
telling_at s kinds (Some i) = telling_in s i (slice_get kinds i)

-- the place of the first kind that names the symbol, and how that kind tells it
abbrev pub telling_kind : ℕ → List CellKind → Option (ℕ × Told)
telling_kind s kinds = telling_at s kinds (position (kind_names s) kinds)

abbrev pub kind_of : Option FlatCell → Option CellKind
kind_of None = None
kind_of (Some c) = Some c.kind

abbrev pub telling_cell_at : ℕ → List FlatCell → Option ℕ → Option (ℕ × Told)
telling_cell_at s cells None = None
telling_cell_at s cells (Some i) = telling_in s i (kind_of (slice_get cells i))

-- the place of the first cell that names the symbol, and how that cell tells it
abbrev pub telling_cell : ℕ → List FlatCell → Option (ℕ × Told)
telling_cell s cells = telling_cell_at s cells (position (λ c. kind_names s c.kind) cells)
