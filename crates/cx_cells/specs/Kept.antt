-- What the rules of a type file keep. Offsets and sizes are in bytes.
use Rattle.std.specs.Prelude.{◌≡◌, ◌≢◌, ℕ, ◌+◌, ◌*◌, ◌^◌, ◌<◌, ◌≤◌, List, length, All, AllPairs, slice_get, IsSome, IsSomeAnd, IfSome, IsTrue, Bool, true, false, ◌&&◌, ◌||◌, nat_lt, nat_le, ◌==◌, count_by, sum_by}
use Rattle.std.specs.List.{list_any}
use Rattle.cx_base.specs.Memory.{IsArgument}
use Rattle.cx_base.specs.Number.{HasSize}
use Rattle.cx_ctree.specs.Types.{type_tree}
use Rattle.cx_term.specs.Forms.{Linear}
use Rattle.cx_term.specs.declared.term.Ineq.{Ineq}
use Rattle.cx_term.specs.declared.term.Ineq.TheVariants.{Ge, Ne}
use Rattle.cx_cells.specs.Symbols.{kind_names, told_by, telling_cell, telling_kind}
use Rattle.cx_cells.specs.declared.calls.AllocArg.{AllocArg}
use Rattle.cx_cells.specs.declared.calls.AllocArg.TheVariants.{Number, Param, Over}
use Rattle.cx_cells.specs.declared.calls.AllocType.{AllocType}
use Rattle.cx_cells.specs.declared.calls.FnType.{FnType}
use Rattle.cx_cells.specs.declared.calls.GlobalType.{GlobalType}
use Rattle.cx_cells.specs.declared.calls.ResultType.{ResultType}
use Rattle.cx_cells.specs.declared.cell.CellKind.{CellKind}
use Rattle.cx_cells.specs.declared.cell.CellKind.TheVariants.{Any, Val, Ptr}
use Rattle.cx_cells.specs.declared.cell.FlatCell.{FlatCell}
use Rattle.cx_cells.specs.declared.form.CaseBranch.{CaseBranch}
use Rattle.cx_cells.specs.declared.form.Form.{Form}
use Rattle.cx_cells.specs.declared.form.Part.{Part}
use Rattle.cx_cells.specs.declared.form.Tail.{Tail}

-- ---- names

-- the byte is a letter, _ or $
abbrev pub is_letter : ℕ → Bool
is_letter b = (nat_le 97 b && nat_le b 122) || (nat_le 65 b && nat_le b 90) || b == 95 || b == 36

-- it is one of these or a digit
abbrev pub is_name_byte : ℕ → Bool
is_name_byte b = is_letter b || (nat_le 48 b && nat_le b 57)

-- the text is a name: a letter, _ or $, then these or digits
abbrev pub IsName : List ℕ → Type 0
IsName text = IsSomeAnd (slice_get text 0) (λ b. IsTrue (is_letter b)) × All (λ b. IsTrue (is_name_byte b)) text

-- ---- symbols and places

-- each symbol that the term names is below known, or from first on and below past
abbrev pub TermIn : (known first past : ℕ) → Linear → Type 0
TermIn known first past t = All (λ p. IsTrue (nat_lt p.0 known || (nat_le first p.0 && nat_lt p.0 past))) t.parts

abbrev pub CondIn : (known first past : ℕ) → Ineq → Type 0
CondIn known first past (Ge t) = TermIn known first past t
CondIn known first past (Ne t) = TermIn known first past t

-- there is a form at the place, and it has so many parameters
abbrev pub HasParams : List Form → ℕ → ℕ → Type 0
HasParams forms name n = IsSomeAnd (slice_get forms name) (λ f. f.params ≡ n)

-- the kind's terms name such symbols, and a pointer's region type is there and has that number of arguments
abbrev pub KindIn : List Form → (known first past : ℕ) → CellKind → Type 0
KindIn forms known first past Any = Unit {0}
KindIn forms known first past (Val signed u) = TermIn known first past u
KindIn forms known first past (Ptr name args off null) = All (TermIn known first past) args × TermIn known first past off × HasParams forms name (length args)

-- ---- cells

-- a value has the size of an integer type, and a pointer 8 bytes
abbrev pub HasKindSize : ℕ → CellKind → Type 0
HasKindSize size Any = Unit {0}
HasKindSize size (Val signed u) = HasSize size
HasKindSize size (Ptr name args off null) = size ≡ 8

-- the cell ends before the other begins
abbrev pub EndsBefore : FlatCell → FlatCell → Type 0
EndsBefore c d = c.at + c.size ≤ d.at

-- a cell of so many bytes
pub record CellKept (forms : List Form) (known first past size : ℕ) (c : FlatCell) : Type 0 where
  pub kind : KindIn forms known first past c.kind
  pub sized : HasKindSize c.size c.kind
  pub ends : c.at + c.size ≤ size

-- each symbol from first on and below past is told by the first cell that names it
abbrev pub AllTold : (first past : ℕ) → List FlatCell → Type 0
AllTold first past cells = (s : ℕ) → first ≤ s → s < past → IsSome (telling_cell s cells)

-- what a branch or an element keeps, where symbols below known are known and its own begin at first
pub record PartKept (forms : List Form) (known first : ℕ) (part : Part) : Type 0 where
  pub binders : part.binders ≤ 16
  pub few_conds : length part.conds < 2 ^ 32
  pub few_cells : length part.cells ≤ 1024
  pub conds : All (CondIn known first (first + part.binders)) part.conds
  pub cells : All (CellKept forms known first (first + part.binders) part.size) part.cells
  pub apart : AllPairs EndsBefore part.cells
  pub told : AllTold first (first + part.binders) part.cells

-- ---- forms

-- how many symbols a form has: its parameters and its own binders
abbrev pub symbols_of : Form → ℕ
symbols_of f = f.params + f.binders

-- the cell does not meet the bytes in which the branch stands
abbrev pub IsBeside : ℕ → ℕ → FlatCell → Type 0
IsBeside from size c = IsTrue (nat_le (c.at + c.size) from || nat_le (from + size) c.at)

-- a branch stands in the head, and meets none of the head's cells
pub record BranchKept (forms : List Form) (f : Form) (b : CaseBranch) : Type 0 where
  pub few_conds : length b.guard < 2 ^ 32
  pub guard : All (CondIn (symbols_of f) 0 0) b.guard
  pub part : PartKept forms (symbols_of f) (symbols_of f) b.part
  pub ends : f.cases_at + b.part.size ≤ f.head_size
  pub beside : All (IsBeside f.cases_at b.part.size) f.head

-- an element has a size, and names parameters and its own binders alone; the number of elements names parameters alone
pub record TailKept (forms : List Form) (f : Form) (tail : Tail) : Type 0 where
  pub count : TermIn f.params 0 0 tail.count
  pub some_size : 1 ≤ tail.part.size
  pub size : tail.part.size ≤ 2 ^ 31
  pub part : PartKept forms f.params (symbols_of f) tail.part

-- a cell of some branch names the symbol
abbrev pub cases_name : ℕ → List CaseBranch → Bool
cases_name s cases = list_any (λ b. list_any (λ c. kind_names s c.kind) b.part.cells) cases

-- the cell that tells a binder which a branch names stands before the branches
abbrev pub ToldBeforeCases : Form → Type 0
ToldBeforeCases f =
    (s : ℕ) → f.params ≤ s → s < symbols_of f → IsTrue (cases_name s f.cases)
    → IfSome (telling_cell s f.head) (λ w. IsSomeAnd (slice_get f.head w.0) (λ c. c.at < f.cases_at))

-- the branches have the size of the first
abbrev pub HaveOneSize : List CaseBranch → Type 0
HaveOneSize cases = IfSome (slice_get cases 0) (λ a. All (λ b. b.part.size ≡ a.part.size) cases)

-- how many cells the head and the branches have together
abbrev pub cell_count : Form → ℕ
cell_count f = length f.head + sum_by (λ b. length b.part.cells) f.cases

pub record FormKept (forms : List Form) (f : Form) : Type 0 where
  pub params : f.params ≤ 8
  pub binders : f.binders ≤ 16
  pub size : f.head_size ≤ 2 ^ 31
  pub few_conds : length f.conds < 2 ^ 32
  pub few_cases : length f.cases < 2 ^ 32
  pub few_cells : cell_count f ≤ 1024
  pub conds : All (CondIn (symbols_of f) 0 0) f.conds
  pub head : All (CellKept forms (symbols_of f) 0 0 f.head_size) f.head
  pub apart : AllPairs EndsBefore f.head
  pub told : AllTold f.params (symbols_of f) f.head
  pub cases : All (BranchKept forms f) f.cases
  pub one_size : HaveOneSize f.cases
  pub told_before : ToldBeforeCases f
  pub tail : IfSome f.tail (TailKept forms f)

-- ---- functions, allocators and globals

abbrev pub is_value : CellKind → Bool
is_value Any = false
is_value (Val signed u) = true
is_value (Ptr name args off null) = false

abbrev pub is_any : CellKind → Bool
is_any Any = true
is_any (Val signed u) = false
is_any (Ptr name args off null) = false

-- its own binders begin at first
pub record ResultKept (forms : List Form) (first : ℕ) (r : ResultType) : Type 0 where
  pub binders : r.binders ≤ 16
  pub few_conds : length r.conds < 2 ^ 32
  pub cell : KindIn forms (first + r.binders) 0 0 r.cell
  pub not_any : is_any r.cell ≡ false
  pub conds : All (CondIn (first + r.binders) 0 0) r.conds
  pub told : (s : ℕ) → first ≤ s → s < first + r.binders → IsSome (told_by s r.cell)

pub record FnKept (forms : List Form) (fn : FnType) : Type 0 where
  pub binders : fn.binders ≤ 24
  pub few_args : length fn.args ≤ 8
  pub few_conds : length fn.conds ≤ 32 + 2 * count_by is_value fn.args
  pub args : All (KindIn forms fn.binders 0 0) fn.args
  pub none_any : All (λ k. is_any k ≡ false) fn.args
  pub conds : All (CondIn fn.binders 0 0) fn.conds
  pub told : (s : ℕ) → s < fn.binders → IsSome (telling_kind s fn.args)
  pub result : IfSome fn.result (ResultKept forms fn.binders)

-- the argument is a number, or one of so many arguments of the call, divided by a number that is not 0
abbrev pub AllocArgKept : ℕ → AllocArg → Type 0
AllocArgKept n (Number z) = Unit {0}
AllocArgKept n (Param p) = p < n
AllocArgKept n (Over p d) = (p < n) × (0 < d)

pub record AllocKept (forms : List Form) (a : AllocType) : Type 0 where
  pub params : a.params ≤ 8
  pub region : HasParams forms a.region (length a.args)
  pub args : All (AllocArgKept a.params) a.args
  pub bytes : a.bytes < a.params
  pub times : IfSome a.times (λ p. p < a.params)

pub record GlobalKept (forms : List Form) (g : GlobalType) : Type 0 where
  pub region : HasParams forms g.region (length g.args)
  pub args : All IsArgument g.args

-- the two are for one call
pub record SameCall (a b : AllocType) : Type 0 where
  pub name : a.name ≡ b.name
  pub pointee : type_tree a.pointee ≡ type_tree b.pointee

-- ---- all of them

pub record Kept (names : List (List ℕ)) (forms : List Form) (fns : List FnType) (allocs : List AllocType) (globals : List GlobalType) : Type 0 where
  pub lengths : length names ≡ length forms
  pub few_forms : length forms < 2 ^ 32
  pub few_fns : length fns < 2 ^ 32
  pub few_allocs : length allocs < 2 ^ 32
  pub few_globals : length globals < 2 ^ 32
  pub short_names : All (λ n. length n < 2 ^ 32) names
  pub are_names : All IsName names
  pub names_differ : AllPairs (λ a b. a ≢ b) names
  pub fns_differ : AllPairs (λ f g. f.name ≢ g.name) fns
  pub globals_differ : AllPairs (λ g h. g.name ≢ h.name) globals
  pub allocs_differ : AllPairs (λ a b. SameCall a b → ⊥) allocs
  pub fns_no_allocs : All (λ f. All (λ a. f.name ≢ a.name) allocs) fns
  pub each_form : All (FormKept forms) forms
  pub each_fn : All (FnKept forms) fns
  pub each_alloc : All (AllocKept forms) allocs
  pub each_global : All (GlobalKept forms) globals
