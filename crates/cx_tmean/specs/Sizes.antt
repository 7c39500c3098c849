-- How many bytes a type of a type file takes, where names stand for numbers: none where the length of an array is negative.
use Rattle.std.specs.Prelude.{ℕ, ◌+◌, ◌*◌, ℤ, List, Option, Some, None, option_map, option_and_then}
use Rattle.cx_ctree.specs.Types.{TypeTree}
use Rattle.cx_cells.specs.Values.{count_of}
use Rattle.cx_tsyn.specs.Lins.{LinTree}
use Rattle.cx_tsyn.specs.Cells.{SCellKindTree, any, any_bytes, val, unsigned, signed, ptr}
use Rattle.cx_tsyn.specs.Items.{RegionItemTree}
use Rattle.cx_tsyn.specs.Types.{STypeTree, stype, AtomTree, cell, paren, tagged, product, cases, STypeTrees, no_type, also_type, SBranchTrees, no_branch, also_branch}
use Rattle.cx_tmeasure.specs.Known.{Known, size_in, tag_size}
use Rattle.cx_tmeasure.specs.Sizes.{type_inside}
use Rattle.cx_tmean.specs.Values.{no_values, with_values, lin_value}

-- of a cell of a member, parameter or result of the C type m
abbrev pub kind_bytes : Known → (m : Option TypeTree) → SCellKindTree → Option ℕ
kind_bytes k m any = size_in k m
kind_bytes k m (any_bytes n) = Some n
kind_bytes k m (val e) = size_in k m
kind_bytes k m (unsigned n e) = Some n
kind_bytes k m (signed n e) = Some n
kind_bytes k m (ptr w args off null) = Some 8

-- of so many elements
abbrev pub in_row : (List ℕ → ℤ) → Option LinTree → (each : Option ℕ) → Option ℕ
in_row v None each = each
in_row v (Some l) each = option_and_then (λ n. option_map (λ e. n * e) each) (count_of (lin_value v l))

abbrev mutual
  pub type_bytes : Known → (List ℕ → ℤ) → (m : Option TypeTree) → STypeTree → Option ℕ
  type_bytes k v m (stype s ws a n cs) = in_row v n (atom_bytes k v (type_inside n m) a)

  pub atom_bytes : Known → (List ℕ → ℤ) → (m : Option TypeTree) → AtomTree → Option ℕ
  atom_bytes k v m (cell x) = kind_bytes k m x.kind
  atom_bytes k v m (paren t) = type_bytes k v m t
  atom_bytes k v m (tagged u tag fs) = tag_size k u tag
  atom_bytes k v m (product ts a) = sum_bytes k v ts
  atom_bytes k v m (cases bs) = first_bytes k v m bs

  pub sum_bytes : Known → (List ℕ → ℤ) → STypeTrees → Option ℕ
  sum_bytes k v no_type = Some 0
  sum_bytes k v (also_type t ts) = option_and_then (λ n. option_map (λ e. n + e) (sum_bytes k v ts)) (type_bytes k v None t)

  -- all branches take as many bytes as the first; none where there is no branch
  pub first_bytes : Known → (List ℕ → ℤ) → (m : Option TypeTree) → SBranchTrees → Option ℕ
  first_bytes k v m no_branch = Some 0
  first_bytes k v m (also_branch g t bs) = type_bytes k v m t

-- of a region with these arguments
abbrev pub region_bytes : Known → RegionItemTree → List ℤ → Option ℕ
region_bytes k r args = type_bytes k (with_values r.params args no_values) None r.body
