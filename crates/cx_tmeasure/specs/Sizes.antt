-- How many bytes a type of a type file takes, and how many cells it has, as whole numbers: without its tail, that is an array of
-- symbolic length. What has no size counts as nothing.
use Rattle.std.specs.Prelude.{ℕ, ◌+◌, ◌*◌, ℤ, pos, negsuc, Bool, false, ◌||◌, not, is_some, Option, Some, None}
use Rattle.std.specs.Option.{unwrap_or}
use Rattle.cx_ctree.specs.Types.{TypeTree}
use Rattle.cx_tsyn.specs.Lins.{LinTree}
use Rattle.cx_tsyn.specs.Cells.{SCellKindTree, any, any_bytes, val, unsigned, signed, ptr}
use Rattle.cx_tsyn.specs.Types.{STypeTree, stype, AtomTree, cell, paren, tagged, product, cases, STypeTrees, no_type, also_type, SFieldTrees, no_field, also_field, SBranchTrees, no_branch, also_branch}
use Rattle.cx_tnumber.specs.Numbers.{number_of}
use Rattle.cx_tmeasure.specs.Known.{Known, size_in, tag_size}

-- ---- lengths of arrays

-- as a number of turns: none below 0
abbrev pub turns : ℤ → ℕ
turns (pos n) = n
turns (negsuc n) = 0

-- what all elements of an array have together, where one has `each`; an array of symbolic length counts as nothing
abbrev pub in_length : Option ℤ → (each : ℕ) → ℕ
in_length None each = 0
in_length (Some z) each = turns z * each

abbrev pub in_all : (times : Option LinTree) → (each : ℕ) → ℕ
in_all None each = each
in_all (Some l) each = in_length (number_of l) each

-- ---- bytes: `c` is the C type of the member, parameter or result that the type is for

abbrev pub kind_size : Known → (c : Option TypeTree) → SCellKindTree → ℕ
kind_size k c any = unwrap_or (size_in k c) 0
kind_size k c (any_bytes n) = n
kind_size k c (val e) = unwrap_or (size_in k c) 0
kind_size k c (unsigned n e) = n
kind_size k c (signed n e) = n
kind_size k c (ptr r args off null) = 8

-- an element has no C type
abbrev pub type_inside : Option LinTree → (c : Option TypeTree) → Option TypeTree
type_inside None c = c
type_inside (Some l) c = None

abbrev mutual
  pub size : Known → (c : Option TypeTree) → STypeTree → ℕ
  size k c (stype s bs a n cs) = in_all n (atom_size k (type_inside n c) a)

  pub atom_size : Known → (c : Option TypeTree) → AtomTree → ℕ
  atom_size k c (cell x) = kind_size k c x.kind
  atom_size k c (paren t) = size k c t
  atom_size k c (tagged u tag fs) = unwrap_or (tag_size k u tag) 0
  atom_size k c (product ts a) = sum_size k ts
  atom_size k c (cases bs) = first_size k c bs

  pub sum_size : Known → STypeTrees → ℕ
  sum_size k no_type = 0
  sum_size k (also_type t ts) = size k None t + sum_size k ts

  -- of the first branch
  pub first_size : Known → (c : Option TypeTree) → SBranchTrees → ℕ
  first_size k c no_branch = 0
  first_size k c (also_branch g t bs) = size k c t

-- ---- cells, of all branches together

abbrev mutual
  pub cells : STypeTree → ℕ
  cells (stype s bs a n cs) = in_all n (atom_cells a)

  pub atom_cells : AtomTree → ℕ
  atom_cells (cell x) = 1
  atom_cells (paren t) = cells t
  atom_cells (tagged u tag fs) = field_cells fs
  atom_cells (product ts a) = sum_cells ts
  atom_cells (cases bs) = branch_cells bs

  pub sum_cells : STypeTrees → ℕ
  sum_cells no_type = 0
  sum_cells (also_type t ts) = cells t + sum_cells ts

  pub field_cells : SFieldTrees → ℕ
  field_cells no_field = 0
  field_cells (also_field f t fs) = cells t + field_cells fs

  pub branch_cells : SBranchTrees → ℕ
  branch_cells no_branch = 0
  branch_cells (also_branch g t bs) = cells t + branch_cells bs

-- ---- tails

abbrev pub is_symbolic : Option LinTree → Bool
is_symbolic None = false
is_symbolic (Some l) = not (is_some (number_of l))

-- an array of symbolic length stands in the type
abbrev mutual
  pub has_tail : STypeTree → Bool
  has_tail (stype s bs a n cs) = is_symbolic n || atom_has_tail a

  pub atom_has_tail : AtomTree → Bool
  atom_has_tail (cell x) = false
  atom_has_tail (paren t) = has_tail t
  atom_has_tail (tagged u tag fs) = some_field_has_tail fs
  atom_has_tail (product ts a) = some_type_has_tail ts
  atom_has_tail (cases bs) = some_branch_has_tail bs

  pub some_type_has_tail : STypeTrees → Bool
  some_type_has_tail no_type = false
  some_type_has_tail (also_type t ts) = has_tail t || some_type_has_tail ts

  pub some_field_has_tail : SFieldTrees → Bool
  some_field_has_tail no_field = false
  some_field_has_tail (also_field f t fs) = has_tail t || some_field_has_tail fs

  pub some_branch_has_tail : SBranchTrees → Bool
  some_branch_has_tail no_branch = false
  some_branch_has_tail (also_branch g t bs) = has_tail t || some_branch_has_tail bs
