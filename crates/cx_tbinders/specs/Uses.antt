-- The first occurrence of a symbol in cells. For occurrences, and for them alone, an array of a fixed length is taken as written out;
-- so in one without an element there are none.
use Rattle.std.specs.Prelude.{ℕ, ℤ, Bool, true, false, not, ◌&&◌, is_some, List, [], ◌∷◌, Option, Some, None, if◌then◌else◌}
use Rattle.std.specs.List.{flat_map}
use Rattle.std.specs.Int.{is_positive}
use Rattle.cx_base.specs.declared.span.Span.{Span}
use Rattle.cx_tsyn.specs.Words.{WordTree}
use Rattle.cx_tsyn.specs.Lins.{LinTree}
use Rattle.cx_tsyn.specs.Cells.{SCellTree, SCellKindTree, any, any_bytes, val, unsigned, signed, ptr}
use Rattle.cx_tsyn.specs.Types.{STypeTree, stype, AtomTree, cell, paren, tagged, product, cases, STypeTrees, no_type, also_type, SFieldTrees, no_field, also_field, SBranchTrees, no_branch, also_branch}
use Rattle.cx_tscope.specs.Faults.{unless}
use Rattle.cx_tnumber.specs.Numbers.{number_of, has_symbol, is_whole}
use Rattle.cx_tbinders.specs.declared.use_of.Use.{Use}
use Rattle.cx_tbinders.specs.declared.use_of.Use.TheVariants.{Absent, Whole, Partial}

-- the first of two occurrences
abbrev pub or_next : Use → Use → Use
or_next Absent u = u
or_next Whole u = Whole
or_next Partial u = Partial

-- the same where a whole occurrence does not do, unless it is firm
abbrev pub if_firm : (firm : Bool) → Use → Use
if_firm firm Absent = Absent
if_firm firm Whole = if firm then Whole else Partial
if_firm firm Partial = Partial

abbrev pub determines : Use → Bool
determines Absent = false
determines Whole = true
determines Partial = false

-- ---- cells

abbrev pub use_in : List ℕ → LinTree → Use
use_in x l = if has_symbol x l then (if is_whole x l then Whole else Partial) else Absent

abbrev pub use_in_args : (firm : Bool) → List ℕ → List LinTree → Use
use_in_args firm x [] = Absent
use_in_args firm x (l ∷ ls) = or_next (if_firm firm (use_in x l)) (use_in_args firm x ls)

abbrev pub use_in_offset : List ℕ → Option LinTree → Use
use_in_offset x None = Absent
use_in_offset x (Some l) = if_firm false (use_in x l)

-- there is no offset, or it is a number
abbrev pub is_fixed : Option LinTree → Bool
is_fixed None = true
is_fixed (Some l) = is_some (number_of l)

-- the arguments of an address determine a symbol where it cannot be null and stands at a fixed offset
abbrev pub use_in_address : List ℕ → List LinTree → (off : Option LinTree) → (null : Bool) → Use
use_in_address x args off null = or_next (use_in_args (not null && is_fixed off) x args) (use_in_offset x off)

abbrev pub use_in_kind : List ℕ → SCellKindTree → Use
use_in_kind x any = Absent
use_in_kind x (any_bytes n) = Absent
use_in_kind x (val e) = use_in x e
use_in_kind x (unsigned n e) = use_in x e
use_in_kind x (signed n e) = use_in x e
use_in_kind x (ptr r args off null) = use_in_address x args off null

abbrev pub use_in_cells : List ℕ → List SCellTree → Use
use_in_cells x [] = Absent
use_in_cells x (c ∷ cs) = or_next (use_in_kind x c.kind) (use_in_cells x cs)

-- ---- types

abbrev pub no_turn : Option ℤ → Bool
no_turn None = false
no_turn (Some z) = not (is_positive z)

-- no element is written out
abbrev pub is_none : Option LinTree → Bool
is_none None = false
is_none (Some l) = no_turn (number_of l)

abbrev mutual
  pub use_in_type : List ℕ → STypeTree → Use
  use_in_type x (stype s bs a n cs) = if is_none n then Absent else use_in_atom x a

  pub use_in_atom : List ℕ → AtomTree → Use
  use_in_atom x (cell c) = use_in_kind x c.kind
  use_in_atom x (paren t) = use_in_type x t
  use_in_atom x (tagged u tag fs) = use_in_fields x fs
  use_in_atom x (product ts a) = use_in_types x ts
  use_in_atom x (cases bs) = use_in_branches x bs

  pub use_in_types : List ℕ → STypeTrees → Use
  use_in_types x no_type = Absent
  use_in_types x (also_type t ts) = or_next (use_in_type x t) (use_in_types x ts)

  pub use_in_fields : List ℕ → SFieldTrees → Use
  use_in_fields x no_field = Absent
  use_in_fields x (also_field f t fs) = or_next (use_in_type x t) (use_in_fields x fs)

  -- a branch determines none but its own binders
  pub use_in_branches : List ℕ → SBranchTrees → Use
  use_in_branches x no_branch = Absent
  use_in_branches x (also_branch g t bs) = or_next (if_firm false (use_in_type x t)) (use_in_branches x bs)

-- ---- binders

-- those of the binders that the type, from its binders on, does not determine
abbrev pub undetermined_by : STypeTree → List WordTree → List Span
undetermined_by t bs = flat_map (λ b. unless (determines (use_in_type b.text t)) b) bs

-- those that the cells do not determine
abbrev pub undetermined_by_cells : List SCellTree → List WordTree → List Span
undetermined_by_cells cs bs = flat_map (λ b. unless (determines (use_in_cells b.text cs)) b) bs

-- those that the cell does not determine
abbrev pub undetermined_by_cell : SCellTree → List WordTree → List Span
undetermined_by_cell c bs = flat_map (λ b. unless (determines (use_in_kind b.text c.kind)) b) bs
