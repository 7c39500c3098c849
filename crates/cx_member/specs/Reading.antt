-- What is read of a memory to decide whether it holds its types.
use Rattle.std.specs.Prelude.{◌≡◌, ℕ, ℤ, pos, ◌+◌, ◌<◌, ◌≤◌, ◌^◌, List, [], ◌++◌, take, length, All, slice_get, unsigned_abs, IfSome, Option, Some, None}
use Rattle.std.specs.List.{AllByRecursion}
use Rattle.cx_base.specs.declared.memory.Region.{Region}
use Rattle.cx_cells.specs.Kept.{HasKindSize, AllTold, symbols_of}
use Rattle.cx_cells.specs.Layouts.{layout_of}
use Rattle.cx_cells.specs.Meaning.{CellHolds, PartHolds, CasesHold, ElementsHold, element_at, size_with}
use Rattle.cx_cells.specs.Symbols.{told_by}
use Rattle.cx_term.specs.Conditions.{Holds}
use Rattle.cx_cells.specs.Values.{values_of}
use Rattle.cx_cells.specs.declared.cell.FlatCell.{FlatCell}
use Rattle.cx_cells.specs.declared.form.Form.{Form}
use Rattle.cx_cells.specs.declared.form.Part.{Part}
use Rattle.cx_cells.specs.declared.form.Tail.{Tail}
use Rattle.cx_cells.specs.declared.telling.Told.{Told}

-- no number's absolute value is above 2^64
abbrev pub AreSmall : List ℤ → Type 0
AreSmall zs = All (λ z. unsigned_abs z ≤ 2 ^ 64) zs

-- the region's bytes; none where there is no region
abbrev pub bytes_in : Option Region → List ℕ
bytes_in None = []
bytes_in (Some r) = r.bytes

-- the bytes of the region at the place
abbrev pub bytes_at : List Region → ℕ → List ℕ
bytes_at rs i = bytes_in (slice_get rs i)

-- the region has this type and this base
pub record Stands (name : ℕ) (base : ℤ) (r : Region) : Type 0 where
  pub named : r.name ≡ name
  pub based : pos r.base ≡ base

-- so many bytes have the cell, in a head, branch or element that begins at the offset
pub record HaveCell (bytes off : ℕ) (c : FlatCell) : Type 0 where
  pub sized : HasKindSize c.size c.kind
  pub ends : off + c.at + c.size ≤ bytes

-- the bytes of the region at the place hold each of the cells, from the offset on, with these values of the symbols
abbrev pub CellsHold : List Region → ℕ → ℕ → List FlatCell → (ℕ → ℤ) → Type 0
CellsHold rs i off cells v = AllByRecursion (CellHolds v (layout_of rs) (bytes_at rs i) off) cells

-- the answer is the value of each symbol that the cell tells in this way, wherever the cell holds
abbrev pub IsTold : List Region → ℕ → ℕ → FlatCell → Told → Option ℤ → Type 0
IsTold rs i off c told answer = (v : ℕ → ℤ) (s : ℕ) → told_by s c.kind ≡ Some told → CellHolds v (layout_of rs) (bytes_at rs i) off c → answer ≡ Some (v s)

-- the answer is the value of the symbol, wherever the fact holds of the symbols' values
abbrev pub IsOnly : ((ℕ → ℤ) → Type 0) → ℕ → Option ℤ → Type 0
IsOnly H s answer = (v : ℕ → ℤ) → H v → answer ≡ Some (v s)

-- the fact holds with no n numbers after the known ones
abbrev pub BindsNone : ((ℕ → ℤ) → Type 0) → List ℤ → ℕ → Type 0
BindsNone H known n = (bs : List ℤ) → length bs ≡ n → H (values_of (known ++ bs)) → ⊥

-- they are the known numbers and n more, the only ones with which the fact may hold
pub record Binds (H : (ℕ → ℤ) → Type 0) (known : List ℤ) (n : ℕ) (values : List ℤ) : Type 0 where
  pub count : length values ≡ length known + n
  pub front : take (length known) values ≡ known
  pub small : AreSmall values
  pub only : (bs : List ℤ) → length bs ≡ n → H (values_of (known ++ bs)) → known ++ bs ≡ values

-- they are the first of such numbers, up to that of the symbol s
pub record Begun (H : (ℕ → ℤ) → Type 0) (known : List ℤ) (n : ℕ) (values : List ℤ) (s : ℕ) : Type 0 where
  pub count : length values ≡ s
  pub front : take (length known) values ≡ known
  pub small : AreSmall values
  pub only : (bs : List ℤ) → length bs ≡ n → H (values_of (known ++ bs)) → take s (known ++ bs) ≡ values

-- with these values of the symbols the conditions of the part are true, and the bytes hold each of its cells
pub record PartHoldsWith (values : List ℤ) (rs : List Region) (i off : ℕ) (part : Part) : Type 0 where
  pub conds : AllByRecursion (Holds (values_of values)) part.conds
  pub cells : CellsHold rs i off part.cells (values_of values)

-- ---- what is asked of a form, so that its cells can be read and its binders bound

-- a part that begins at the offset in so many bytes, where so many symbols are known: its cells lie there, and tell its own
-- binders
pub record PartReads (bytes off known : ℕ) (part : Part) : Type 0 where
  pub few : known + part.binders ≤ 40
  pub told : AllTold known (known + part.binders) part.cells
  pub cells : All (HaveCell bytes off) part.cells

pub record TailReads (known : ℕ) (tail : Tail) : Type 0 where
  pub some_size : 1 ≤ tail.part.size
  pub size : tail.part.size ≤ 2 ^ 31
  pub part : PartReads tail.part.size 0 known tail.part

pub record HeadReads (bytes : ℕ) (form : Form) : Type 0 where
  pub few : symbols_of form ≤ 24
  pub told : AllTold form.params (symbols_of form) form.head
  pub cells : All (HaveCell bytes 0) form.head
  pub cases : All (λ b. PartReads bytes form.cases_at (symbols_of form) b.part) form.cases

pub record FormReads (form : Form) : Type 0 where
  pub size : form.head_size ≤ 2 ^ 31
  pub head : HeadReads form.head_size form
  pub tail : IfSome form.tail (TailReads (symbols_of form))

-- with these values of the symbols the conditions of the head are true, and the bytes hold each of its cells, and some branch
pub record HeadHoldsWith (values : List ℤ) (rs : List Region) (i : ℕ) (form : Form) : Type 0 where
  pub conds : AllByRecursion (Holds (values_of values)) form.conds
  pub cells : CellsHold rs i 0 form.head (values_of values)
  pub cases : CasesHold values (layout_of rs) (bytes_at rs i) form.cases_at form.cases

-- the part holds in the first n elements
abbrev pub ElementsHoldUpTo : ℕ → List ℤ → List Region → ℕ → Form → Tail → Type 0
ElementsHoldUpTo n known rs i form tail = (k : ℕ) → k < n → PartHolds known (layout_of rs) (bytes_at rs i) (element_at form tail k) tail.part

-- so many bytes are those of the form, and each element of the tail holds
pub record TailHolds (bytes : ℕ) (form : Form) (args : List ℤ) (rs : List Region) (i : ℕ) (tail : Option Tail) : Type 0 where
  pub size : size_with form args tail ≡ Some bytes
  pub elements : ElementsHold form args (layout_of rs) (bytes_at rs i) tail
