-- Cells as plain data.
use Rattle.std.specs.Prelude.{ℕ, Bool, List, Option, map, option_map}
use Rattle.cx_base.specs.declared.span.Span.{Span}
use Rattle.cx_tsyn.specs.Words.{WordTree, word_tree}
use Rattle.cx_tsyn.specs.Lins.{LinTree, lin_tree}
use Rattle.cx_tsyn.specs.declared.cell.SCell.{SCell}
use Rattle.cx_tsyn.specs.declared.cell.SCellKind.{SCellKind}
use Rattle.cx_tsyn.specs.declared.cell.SCellKind.TheVariants as k

pub data SCellKindTree : Type 0 where
  any : SCellKindTree
  any_bytes : (size : ℕ) → SCellKindTree
  val : LinTree → SCellKindTree
  unsigned : (size : ℕ) → LinTree → SCellKindTree
  signed : (size : ℕ) → LinTree → SCellKindTree
  ptr : (name : WordTree) → (args : List LinTree) → (off : Option LinTree) → (null : Bool) → SCellKindTree

pub record SCellTree : Type 0 where
  pub span : Span
  pub kind : SCellKindTree

abbrev pub cell_kind_tree : SCellKind → SCellKindTree
cell_kind_tree k.Any = any
cell_kind_tree (k.AnyBytes n) = any_bytes n
cell_kind_tree (k.Val e) = val (lin_tree e)
cell_kind_tree (k.Unsigned n e) = unsigned n (lin_tree e)
cell_kind_tree (k.Signed n e) = signed n (lin_tree e)
cell_kind_tree (k.Ptr name args off null) = ptr (word_tree name) (map lin_tree args) (option_map lin_tree off) null

-- the cell
abbrev pub cell_tree : SCell → SCellTree
cell_tree c = record { span = c.span; kind = cell_kind_tree c.kind }
