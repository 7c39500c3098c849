-- Where a report stands in the source.
use Rattle.std.specs.Prelude.{◌≡◌, ◌≤◌, ℕ, List, length}
use Rattle.cx_base.specs.Place.{line_of, column_of}
use Rattle.cx_run.specs.declared.text.Position.{Position}

-- the line and the column are those of the offset
pub record IsIn (source : List ℕ) (p : Position) : Type 0 where
  pub inside : p.at ≤ length source
  pub line : p.line ≡ line_of source p.at
  pub column : p.column ≡ column_of source p.at
