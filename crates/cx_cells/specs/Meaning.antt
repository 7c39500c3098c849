-- When bytes hold a form. Offsets are counted from the first of these bytes. Bytes that no cell covers are any, and of the
-- other regions only the layout is looked at.
use Rattle.std.specs.Prelude.{◌≡◌, ℕ, ℤ, pos, ◌+◌, ◌*◌, ◌<ℤ◌, List, [], ◌∷◌, ◌++◌, length, replicate, slice_range, Any, Bool, false, Option, Some, None, option_map}
use Rattle.std.specs.List.{AllByRecursion}
use Rattle.cx_base.specs.Bytes.{number_of}
use Rattle.cx_base.specs.Number.{wrapped}
use Rattle.cx_term.specs.Forms.{value}
use Rattle.cx_term.specs.Conditions.{Holds}
use Rattle.cx_cells.specs.Values.{values_of, all_values, count_of}
use Rattle.cx_cells.specs.Layouts.{Extent, Points}
use Rattle.cx_cells.specs.declared.cell.CellKind.{CellKind}
use Rattle.cx_cells.specs.declared.cell.CellKind.TheVariants.{Val, Ptr}
use Rattle.cx_cells.specs.declared.cell.CellKind.TheVariants.{Any as AnyBytes}
use Rattle.cx_cells.specs.declared.cell.FlatCell.{FlatCell}
use Rattle.cx_cells.specs.declared.form.Part.{Part}
use Rattle.cx_cells.specs.declared.form.CaseBranch.{CaseBranch}
use Rattle.cx_cells.specs.declared.form.Tail.{Tail}
use Rattle.cx_cells.specs.declared.form.Form.{Form}

-- the number of this sign that so many bytes from the offset on write
abbrev pub number_at : List ℕ → ℕ → ℕ → Bool → ℤ
number_at bytes off size signed = wrapped size signed (pos (number_of (slice_range bytes off (off + size))))

-- the bytes from the offset on hold what the kind says
abbrev pub KindHolds : (ℕ → ℤ) → List Extent → List ℕ → ℕ → ℕ → CellKind → Type 0
KindHolds v layout bytes off size AnyBytes = Unit {0}
KindHolds v layout bytes off size (Val signed u) = number_at bytes off size signed ≡ value v u
KindHolds v layout bytes off size (Ptr name args to null) = Points layout name (all_values v args) (value v to) null (number_at bytes off size false)

-- they hold the cell, in a head, branch or element that begins at the offset
abbrev pub CellHolds : (ℕ → ℤ) → List Extent → List ℕ → ℕ → FlatCell → Type 0
CellHolds v layout bytes off c = KindHolds v layout bytes (off + c.at) c.size c.kind

-- they hold the part: for some values of its binders, which come after those that are known, its conditions are true and
-- each cell holds
pub record PartHolds (known : List ℤ) (layout : List Extent) (bytes : List ℕ) (off : ℕ) (part : Part) : Type 0 where
  pub binders : List ℤ
  pub count : length binders ≡ part.binders
  pub conds : AllByRecursion (Holds (values_of (known ++ binders))) part.conds
  pub cells : AllByRecursion (CellHolds (values_of (known ++ binders)) layout bytes off) part.cells

-- the guard is true, and they hold the branch's part
pub record BranchHolds (known : List ℤ) (layout : List Extent) (bytes : List ℕ) (off : ℕ) (branch : CaseBranch) : Type 0 where
  pub guard : AllByRecursion (Holds (values_of known)) branch.guard
  pub part : PartHolds known layout bytes off branch.part

-- they hold some branch, where there are branches
abbrev pub CasesHold : List ℤ → List Extent → List ℕ → ℕ → List CaseBranch → Type 0
CasesHold known layout bytes off [] = Unit {0}
CasesHold known layout bytes off (b ∷ bs) = Any (BranchHolds known layout bytes off) (b ∷ bs)

-- the bytes hold the form's head: for some values of its binders its conditions are true, each cell holds, and some branch
pub record HeadHolds (form : Form) (args : List ℤ) (layout : List Extent) (bytes : List ℕ) : Type 0 where
  pub binders : List ℤ
  pub count : length binders ≡ form.binders
  pub conds : AllByRecursion (Holds (values_of (args ++ binders))) form.conds
  pub cells : AllByRecursion (CellHolds (values_of (args ++ binders)) layout bytes 0) form.head
  pub cases : CasesHold (args ++ binders) layout bytes form.cases_at form.cases

-- what an element knows beside its own binders: the arguments, and 0 for each binder of the form, which it does not name
abbrev pub known_to_elements : Form → List ℤ → List ℤ
known_to_elements form args = args ++ replicate form.binders (pos 0)

-- how many elements there are, as a whole number
abbrev pub element_count : List ℤ → Tail → ℤ
element_count args tail = value (values_of args) tail.count

-- where the element i begins
abbrev pub element_at : Form → Tail → ℕ → ℕ
element_at form tail i = form.head_size + i * tail.part.size

-- the bytes hold each element of the tail, where there is a tail
abbrev pub ElementsHold : Form → List ℤ → List Extent → List ℕ → Option Tail → Type 0
ElementsHold form args layout bytes None = Unit {0}
ElementsHold form args layout bytes (Some tail) =
    (i : ℕ) → pos i <ℤ element_count args tail → PartHolds (known_to_elements form args) layout bytes (element_at form tail i) tail.part

-- how many bytes a region of the form has: none where the number of elements is negative
abbrev pub size_with : Form → List ℤ → Option Tail → Option ℕ
size_with form args None = Some form.head_size
size_with form args (Some tail) = option_map (element_at form tail) (count_of (element_count args tail))

abbrev pub form_size : Form → List ℤ → Option ℕ
form_size form args = size_with form args form.tail

-- the bytes hold the form for these arguments
pub record FormHolds (form : Form) (args : List ℤ) (layout : List Extent) (bytes : List ℕ) : Type 0 where
  pub given : length args ≡ form.params
  pub size : form_size form args ≡ Some (length bytes)
  pub head : HeadHolds form args layout bytes
  pub elements : ElementsHold form args layout bytes form.tail
