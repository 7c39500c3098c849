-- The cells and types in a type of a type file whose sizes are wrong: parts before wholes, and then in the order of the text.
use Rattle.std.specs.Prelude.{ℕ, ◌*◌, ℤ, pos, negsuc, Bool, true, false, not, ◌==◌, ◌&&◌, nat_lt, nat_le, is_some, List, [], ◌∷◌, ◌++◌, Option, Some, None, option_map}
use Rattle.std.specs.Option.{option_map_or}
use Rattle.cx_base.specs.declared.span.Span.{Span}
use Rattle.cx_ctree.specs.Types as c
use Rattle.cx_ctree.specs.Decls.{MemberTree}
use Rattle.cx_ctree.specs.Layouts.{most_bytes}
use Rattle.cx_tsyn.specs.Words.{WordTree}
use Rattle.cx_tsyn.specs.Lins.{LinTree}
use Rattle.cx_tsyn.specs.Cells.{SCellTree, SCellKindTree, any, any_bytes, val, unsigned, signed, ptr}
use Rattle.cx_tsyn.specs.Types.{STypeTree, stype, stype_span, AtomTree, cell, paren, tagged, product, cases, STypeTrees, no_type, also_type, SFieldTrees, no_field, also_field, SBranchTrees, no_branch, also_branch, AsTagTree}
use Rattle.cx_tnumber.specs.Numbers.{number_of}
use Rattle.cx_tmeasure.specs.Known.{Known, members_of, member_for, behind, size_in, tag_size}
use Rattle.cx_tmeasure.specs.Sizes.{type_inside, size, atom_size, sum_size, first_size, atom_cells, has_tail, some_type_has_tail}

abbrev pub unless_span : (right : Bool) → Span → List Span
unless_span true s = []
unless_span false s = s ∷ []

-- ---- cells

-- an integer or a pointer of C
abbrev pub is_scalar : c.TypeTree → Bool
is_scalar c.void = false
is_scalar (c.int t) = true
is_scalar (c.pointer t) = true
is_scalar (c.array t n) = false
is_scalar (c.tag n) = false

-- `any` takes a size from its C type, `val` a size and a sign
abbrev pub kind_is_sized : Known → Option c.TypeTree → SCellKindTree → Bool
kind_is_sized k m any = is_some (size_in k m)
kind_is_sized k m (any_bytes n) = true
kind_is_sized k m (val e) = option_map_or is_scalar m false
kind_is_sized k m (unsigned n e) = true
kind_is_sized k m (signed n e) = true
kind_is_sized k m (ptr r args off null) = true

abbrev pub bad_cell : Known → Option c.TypeTree → SCellTree → List Span
bad_cell k m x = unless_span (kind_is_sized k m x.kind) x.span

-- ---- types

abbrev pub most_cells : ℕ
most_cells = 1024

abbrev pub few_cells : ℕ → Bool
few_cells n = nat_le n most_cells

abbrev pub fits : ℕ → Bool
fits n = nat_le n most_bytes

-- an array of this length, of elements of so many bytes and cells; one of symbolic length is judged by its element
abbrev pub length_fits : Option ℤ → (each cells : ℕ) → Bool
length_fits None each cells = few_cells cells
length_fits (Some (pos n)) each cells = fits (n * each)
length_fits (Some (negsuc n)) each cells = false

abbrev pub array_is_right : Option LinTree → (each cells : ℕ) → Bool
array_is_right None each cells = fits each
array_is_right (Some l) each cells = nat_lt 0 each && (fits each && length_fits (number_of l) each cells)

-- a struct or union is complete
abbrev pub atom_is_sized : Known → AtomTree → Bool
atom_is_sized k (cell x) = true
atom_is_sized k (paren t) = true
atom_is_sized k (tagged u tag fs) = is_some (tag_size k u tag)
atom_is_sized k (product ts a) = true
atom_is_sized k (cases bs) = true

-- a type of so many bytes, with a tail or without, takes exactly so many bytes
abbrev pub is_exactly : (bytes : Option ℕ) → (taken : ℕ) → (tail : Bool) → Bool
is_exactly None taken tail = false
is_exactly (Some n) taken tail = (taken == n) && not tail

-- the product takes as many bytes as what it is said to be
abbrev pub bad_as : Known → (taken : ℕ) → (tail : Bool) → Option AsTagTree → List Span
bad_as k taken tail None = []
bad_as k taken tail (Some a) = unless_span (is_exactly (tag_size k a.union_ a.tag) taken tail) a.span

abbrev pub ctype_of : Option MemberTree → Option c.TypeTree
ctype_of m = option_map (λ m. m.ctype) m

-- the type of the member that a field is for, where these are left
abbrev pub field_type : Known → (u : Bool) → (left : List MemberTree) → WordTree → Option c.TypeTree
field_type k u ms f = ctype_of (member_for k u ms f)

abbrev mutual
  pub bad_in_type : Known → (m : Option c.TypeTree) → STypeTree → List Span
  bad_in_type k m (stype s bs a n cs) =
      bad_in_atom k (type_inside n m) a
      ++ unless_span (atom_is_sized k a && array_is_right n (atom_size k (type_inside n m) a) (atom_cells a)) s

  pub bad_in_atom : Known → (m : Option c.TypeTree) → AtomTree → List Span
  bad_in_atom k m (cell x) = bad_cell k m x
  bad_in_atom k m (paren t) = bad_in_type k m t
  bad_in_atom k m (tagged u tag fs) = bad_in_fields k u (members_of k u tag) fs
  bad_in_atom k m (product ts a) = bad_in_types k ts ++ bad_as k (sum_size k ts) (some_type_has_tail ts) a
  bad_in_atom k m (cases bs) = bad_in_branches k m (first_size k m bs) bs

  pub bad_in_types : Known → STypeTrees → List Span
  bad_in_types k no_type = []
  bad_in_types k (also_type t ts) = bad_in_type k None t ++ bad_in_types k ts

  -- each field takes as many bytes as its member
  pub bad_in_fields : Known → (u : Bool) → (left : List MemberTree) → SFieldTrees → List Span
  bad_in_fields k u ms no_field = []
  bad_in_fields k u ms (also_field f t fs) =
      (bad_in_type k (field_type k u ms f) t
      ++ unless_span (is_exactly (size_in k (field_type k u ms f)) (size k (field_type k u ms f) t) (has_tail t)) (stype_span t))
      ++ bad_in_fields k u (behind u ms) fs

  -- each branch takes as many bytes as the first
  pub bad_in_branches : Known → (m : Option c.TypeTree) → (bytes : ℕ) → SBranchTrees → List Span
  bad_in_branches k m n no_branch = []
  bad_in_branches k m n (also_branch g t bs) =
      (bad_in_type k m t ++ unless_span (is_exactly (Some n) (size k m t) (has_tail t)) (stype_span t)) ++ bad_in_branches k m n bs

-- in a type for so many bytes
abbrev pub bad_for : Known → (m : Option c.TypeTree) → (bytes : Option ℕ) → STypeTree → List Span
bad_for k m n t = bad_in_type k m t ++ unless_span (is_exactly n (size k m t) (has_tail t)) (stype_span t)

abbrev pub bad_in_field : Known → (u : Bool) → (left : List MemberTree) → WordTree → STypeTree → List Span
bad_in_field k u ms f t = bad_for k (field_type k u ms f) (size_in k (field_type k u ms f)) t
