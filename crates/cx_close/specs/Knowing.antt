-- What is known of the bytes of a part of a region: the known cells, and the known values of binders.
use Rattle.std.specs.Prelude.{ℕ, zero, suc, pos, Bool, not, ◌&&◌, ◌==◌, if◌then◌else◌, List, [], ◌∷◌, ◌++◌, length, slice_get, Option, Some, None}
use Rattle.cx_term.specs.Forms.{Linear}
use Rattle.cx_cells.specs.Symbols.{telling_cell}
use Rattle.cx_cells.specs.declared.cell.CellKind.{CellKind}
use Rattle.cx_cells.specs.declared.cell.CellKind.TheVariants.{Any, Val, Ptr}
use Rattle.cx_cells.specs.declared.cell.FlatCell.{FlatCell}
use Rattle.cx_cells.specs.declared.telling.Told.{Told}
use Rattle.cx_cells.specs.declared.telling.Told.TheVariants.{Value, Argument}
use Rattle.cx_state.specs.Known.{fact_at, known_in}
use Rattle.cx_state.specs.declared.state.Cell.{Cell}
use Rattle.cx_state.specs.declared.state.Fact.{Fact}
use Rattle.cx_state.specs.declared.state.Env.{Env}
use Rattle.cx_state.specs.declared.state.Pointed.{Pointed}
use Rattle.cx_query.specs.Kinds.{in_type}
use Rattle.cx_query.specs.Pointing.{point_of, not_fresh}
use Rattle.cx_query.specs.Shown.{difference, sum, number, shown_equal}

-- a part of a region: its cells, and the offset from the region's base at which it begins. The symbol s with the fact f points
-- into the region. The symbol own, where there is one, counts as not fresh
pub record Window : Type 0 where
  pub own : Option ℕ
  pub s : ℕ
  pub f : Fact
  pub start : Option Linear
  pub cells : List FlatCell

abbrev pub window : Option ℕ → ℕ → Fact → Option Linear → List FlatCell → Window
window own s f start cells = record { own = own; s = s; f = f; start = start; cells = cells }

-- ---- known cells

-- where a cell of the part lies, counted from the symbol
abbrev pub place_of : Option Linear → Fact → FlatCell → Option Linear
place_of start f c = difference (sum start (number (pos c.at))) (Some f.off)

abbrev pub cell_at : List Cell → Option ℕ → Option Cell
cell_at cells None = None
cell_at cells (Some i) = slice_get cells i

-- the known cell of the symbol at the place; none where the place is no form
abbrev pub known_cell : List Cell → ℕ → Option Linear → ℕ → Option Cell
known_cell cells s None size = None
known_cell cells s (Some at) size = cell_at cells (known_in cells s at size)

-- the known cell at a cell of the part
abbrev pub known_at : Env → Window → FlatCell → Option Cell
known_at env w c = known_cell env.cells w.s (place_of w.start w.f c) c.size

-- ---- known values of binders

-- the known number, where it is shown in the range of the cell that tells the binder
abbrev pub number_known : Env → ℕ → Bool → Option Cell → Option Linear
number_known env size signed None = None
number_known env size signed (Some d) = if in_type env size signed d.value then Some d.value else None

-- the argument of the region that a known address points to, where that is of the type and at the offset, and not null
abbrev pub argument_of : Env → ℕ → Linear → ℕ → Pointed → Option Fact → Option Linear
argument_of env name off i p None = None
argument_of env name off i p (Some g) = if not p.null && ((g.name == name) && shown_equal env (Some p.off) (Some off)) then slice_get g.args i else None

abbrev pub argument_at : Env → ℕ → Linear → ℕ → Option Pointed → Option Linear
argument_at env name off i None = None
argument_at env name off i (Some p) = argument_of env name off i p (fact_at env.facts p.sym)

abbrev pub argument_known : Option ℕ → Env → ℕ → Linear → ℕ → Option Cell → Option Linear
argument_known own env name off i None = None
argument_known own env name off i (Some d) = argument_at env name off i (point_of (not_fresh own env) d.value)

-- by how the cell tells the binder
abbrev pub told : Option ℕ → Env → ℕ → CellKind → Told → Option Cell → Option Linear
told own env size Any how d = None
told own env size (Val signed u) how d = number_known env size signed d
told own env size (Ptr name args off null) Value d = None
told own env size (Ptr name args off null) (Argument i) d = argument_known own env name off i d

abbrev pub told_by : Env → Window → Told → Option FlatCell → Option Linear
told_by env w how None = None
told_by env w how (Some c) = told w.own env c.size c.kind how (known_at env w c)

abbrev pub told_in : Env → Window → Option (ℕ × Told) → Option Linear
told_in env w None = None
told_in env w (Some i) = told_by env w i.1 (slice_get w.cells i.0)

-- the known value of the binder that is the symbol k of the form
abbrev pub known_binder : Env → Window → ℕ → Option Linear
known_binder env w k = told_in env w (telling_cell k w.cells)

abbrev pub with_value : List Linear → Option Linear → Option (List Linear)
with_value values None = None
with_value values (Some t) = Some (values ++ t ∷ [])

abbrev pub next_binder : Env → Window → Option (List Linear) → Option (List Linear)
next_binder env w None = None
next_binder env w (Some values) = with_value values (known_binder env w (length values))

-- the values and those of the next n binders, whose symbols come next; none where one is not known
abbrev pub known_binders : Env → Window → ℕ → Option (List Linear) → Option (List Linear)
known_binders env w zero values = values
known_binders env w (suc n) values = known_binders env w n (next_binder env w values)
