-- The clause of the reader of cells, from what is told of its reading function.
use Rattle.std.proofs.Common.{◌≡◌, ℕ, suc, List, length, Result, refl, arith}
use Rattle.cx_tsyn.specs.declared.cell.SCell.{SCell}
use Rattle.cx_tsyn.specs.Cells.{SCellTree, cell_tree}
use Rattle.cx_tword.specs.declared.lexeme.TypeLexeme.{TypeLexeme}
use Rattle.cx_reader.specs.declared.read.Read.{Read}
use Rattle.cx_reader.specs.declared.stop.Stop.{Stop}
use Rattle.cx_reader.specs.Reading.{Gives}
use Rattle.cx_reader.specs.Parts.{ReadsFront}
use Rattle.cx_reader.proofs.Clauses.{reads_front, one_tree}
use Rattle.cx_tcell.specs.Cells.{IsCell, EndsCell}
use Rattle.cx_tcell.specs.Reading.{cell_at}
use Rattle.cx_tcell.proofs.Told.{cell_good}
use Rattle.cx_tcell.proofs.There.{cell_there}

pub cell_reads : (bytes : List ℕ) (os : List TypeLexeme) (r : Result (Read TypeLexeme SCell) Stop) → Gives cell_tree r (cell_at bytes os) → ReadsFront (IsCell bytes) EndsCell cell_tree os r
cell_reads bytes os r h = reads_front (IsCell bytes) EndsCell (λ m w. cell_at bytes w) (λ m a rest x s less ends. cell_there bytes s rest ends) (suc (length os)) os (omega arith) (cell_good bytes (suc (length os)) os (omega arith)) cell_tree r h

pub one_cell : (bytes : List ℕ) (a : List TypeLexeme) (x y : SCellTree) → IsCell bytes a x → IsCell bytes a y → x ≡ y
one_cell bytes = one_tree (IsCell bytes) EndsCell (λ m w. cell_at bytes w) (λ m a rest x s less ends. cell_there bytes s rest ends) refl
