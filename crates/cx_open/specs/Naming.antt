-- New symbols, and forms that stand for what is known or for new symbols.
use Rattle.std.specs.Prelude.{ℕ, zero, suc, ℤ, pos, neg_ℤ, ◌^◌, Bool, if◌then◌else◌, nat_lt, List, [], ◌∷◌, ◌++◌, length, slice_get, Option, Some, None, Result, Ok, Err}
use Rattle.cx_term.specs.Forms.{Linear, symbol_of}
use Rattle.cx_entail.specs.Ranges.{Span}
use Rattle.cx_cells.specs.Symbols.{telling_cell}
use Rattle.cx_cells.specs.declared.cell.CellKind.{CellKind}
use Rattle.cx_cells.specs.declared.cell.CellKind.TheVariants.{Any, Val, Ptr}
use Rattle.cx_cells.specs.declared.cell.FlatCell.{FlatCell}
use Rattle.cx_cells.specs.declared.telling.Told.{Told}
use Rattle.cx_state.specs.declared.state.Fact.{Fact}
use Rattle.cx_state.specs.declared.state.Env.{Env}
use Rattle.cx_state.specs.declared.state.EnvFault.{EnvFault}
use Rattle.cx_state.specs.declared.state.EnvFault.TheVariants.{Limit}
use Rattle.cx_state.specs.declared.state.EnvLimit.TheVariants.{Symbols}
use Rattle.cx_query.specs.Kinds.{is_size, least_of, greatest_of}
use Rattle.cx_learn.specs.Answers.{Answer}
use Rattle.cx_close.specs.Knowing.{Window, known_binder}
use Rattle.cx_open.specs.Steps.{bind}
use Rattle.cx_open.specs.declared.naming.Named.{Named}
use Rattle.cx_open.specs.declared.naming.Opening.{Opening}

-- ---- ranges

-- all numbers from lo to hi
abbrev pub between : ℤ → ℤ → Span
between lo hi = record { lo = lo; hi = hi; m = 1; r = 0 }

-- the numbers that a region's argument may be
abbrev pub argument_range : Span
argument_range = between (neg_ℤ (pos (2 ^ 64))) (pos (2 ^ 64))

-- the numbers of the integer type
abbrev pub type_range : ℕ → Bool → Span
type_range size signed = between (least_of size signed) (greatest_of size signed)

-- ---- symbols

-- the state with one symbol more
abbrev pub added : Env → Span → Option Fact → Answer
added env range fact =
    if nat_lt (length env.ranges) 512
    then Ok (record env { ranges = env.ranges ++ range ∷ []; facts = env.facts ++ fact ∷ [] })
    else Err (Limit Symbols)

-- the form, or where there is none a new symbol of the range, whose number is the count of symbols before
abbrev pub named : Env → Span → Option Linear → Result Named EnvFault
named env range (Some t) = Ok (record { env = env; term = t })
named env range None = bind (added env range None) (λ next. Ok (record { env = next; term = symbol_of (length env.ranges) }))

abbrev pub with_named : List Linear → Named → Opening
with_named values n = record { env = n.env; terms = values ++ n.term ∷ [] }

-- ---- binders

-- the range of a new symbol for a binder, by the cell that tells it
abbrev pub range_of_kind : ℕ → CellKind → Span
range_of_kind size Any = argument_range
range_of_kind size (Val signed u) = if is_size size then type_range size signed else argument_range
range_of_kind size (Ptr name args off null) = argument_range

abbrev pub range_by : Option FlatCell → Span
range_by None = argument_range
range_by (Some c) = range_of_kind c.size c.kind

abbrev pub range_in : List FlatCell → Option (ℕ × Told) → Span
range_in cells None = argument_range
range_in cells (Some i) = range_by (slice_get cells i.0)

-- of the binder that is the symbol k
abbrev pub binder_range : List FlatCell → ℕ → Span
binder_range cells k = range_in cells (telling_cell k cells)

-- the value of the next binder: its known value, or a new symbol
abbrev pub next_bound : Window → Opening → Result Opening EnvFault
next_bound w o = bind (named o.env (binder_range w.cells (length o.terms)) (known_binder o.env w (length o.terms))) (λ n. Ok (with_named o.terms n))

-- those of the next n binders, whose symbols come next
abbrev pub bound : ℕ → Window → Opening → Result Opening EnvFault
bound zero w o = Ok o
bound (suc n) w o = bind (next_bound w o) (λ next. bound n w next)
