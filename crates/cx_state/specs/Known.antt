-- What a state says of one symbol.
use Rattle.std.specs.Prelude.{ℕ, List, Option, Some, None, slice_get, Bool, ◌==◌, ◌&&◌, position}
use Rattle.std.specs.List.{list_any}
use Rattle.cx_term.specs.Forms.{Linear}
use Rattle.cx_entail.specs.Shows.{same_form}
use Rattle.cx_state.specs.declared.state.Fact.{Fact}
use Rattle.cx_state.specs.declared.state.Cell.{Cell}

abbrev pub inner : Option (Option Fact) → Option Fact
inner None = None
inner (Some fact) = fact

-- the fact of the symbol
abbrev pub fact_at : List (Option Fact) → ℕ → Option Fact
fact_at facts s = inner (slice_get facts s)

-- the symbol is one of these
abbrev pub is_one_of : List ℕ → ℕ → Bool
is_one_of symbols s = list_any (λ t. t == s) symbols

-- the cell has this symbol and size, and begins at the symbol plus at
abbrev pub is_cell_at : ℕ → Linear → ℕ → Cell → Bool
is_cell_at s at size c = (c.sym == s) && ((c.size == size) && same_form c.at at)

-- the place of the known cell: of the first such one
abbrev pub known_in : List Cell → ℕ → Linear → ℕ → Option ℕ
known_in cells s at size = position (is_cell_at s at size) cells
