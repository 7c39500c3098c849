-- The words and types of a type file at which a symbol is not determined, in the order of the text. A binder has one value at most:
-- that of the first cell in which it occurs, which has to hold it whole.
use Rattle.std.specs.Prelude.{ℕ, Bool, true, false, not, ◌&&◌, ◌||◌, is_some, List, [], ◌∷◌, ◌++◌, length, Option, Some, None, if◌then◌else◌}
use Rattle.std.specs.List.{flat_map}
use Rattle.cx_base.specs.declared.span.Span.{Span}
use Rattle.cx_tsyn.specs.Words.{WordTree}
use Rattle.cx_tsyn.specs.Lins.{LinTree}
use Rattle.cx_tsyn.specs.Types.{STypeTree, stype, AtomTree, cell, paren, tagged, product, cases, STypeTrees, no_type, also_type, SFieldTrees, no_field, also_field, SBranchTree, SBranchTrees, no_branch, also_branch}
use Rattle.cx_tsyn.specs.Items as item
use Rattle.cx_tscope.specs.Faults.{first}
use Rattle.cx_tscope.specs.Scopes.{with_words}
use Rattle.cx_tnumber.specs.Numbers.{number_of}
use Rattle.cx_tbinders.specs.Uses.{is_none, undetermined_by, undetermined_by_cells, undetermined_by_cell}
use Rattle.cx_tbinders.specs.Left.{left_in, left_in_kind, left_in_relations}
use Rattle.cx_tbinders.specs.declared.place.Place.{Place}

-- ---- where a type stands: `names` are the binders around it and its own

abbrev pub whole_region : Place
whole_region = record { in_array = false; in_branch = false; is_last = true; is_absent = false; outer = 0 }

abbrev pub is_number : LinTree → Bool
is_number l = is_some (number_of l)

-- a binder is left in the form
abbrev pub has_binder : (names : List (List ℕ)) → LinTree → Bool
has_binder names l = is_some (first (left_in names (length names) l))

-- an array of symbolic length stands at the end of its region, in no branch and no other array, and its length uses parameters alone
abbrev pub may_be_symbolic : (names : List (List ℕ)) → Place → LinTree → Bool
may_be_symbolic names p l = (p.is_last && (not p.in_array && not p.in_branch)) && not (has_binder names l)

abbrev pub length_is_right : (names : List (List ℕ)) → Place → Option LinTree → Bool
length_is_right names p None = true
length_is_right names p (Some l) = is_number l || may_be_symbolic names p l

abbrev pub is_cases : AtomTree → Bool
is_cases (cell c) = false
is_cases (paren t) = false
is_cases (tagged u tag fs) = false
is_cases (product ts a) = false
is_cases (cases bs) = true

-- cases stand in no array, and are the only ones of their region: none are `seen` before them
abbrev pub cases_are_right : Place → (seen : Bool) → Option LinTree → AtomTree → Bool
cases_are_right p seen n a = not (is_cases a && (p.in_array || (is_some n || seen)))

abbrev pub type_is_right : (names : List (List ℕ)) → Place → (seen : Bool) → Option LinTree → AtomTree → Bool
type_is_right names p seen n a = length_is_right names p n && cases_are_right p seen n a

-- how many of the names are declared outside the element in which the atom of the type stands
abbrev pub outer_after : (names : List (List ℕ)) → Place → Option LinTree → ℕ
outer_after names p None = p.outer
outer_after names p (Some l) = if is_number l then p.outer else length names

-- where the atom of the type stands
abbrev pub inside : (names : List (List ℕ)) → Place → Option LinTree → Place
inside names p n = record {
  in_array = p.in_array || is_some n;
  in_branch = p.in_branch;
  is_last = p.is_last;
  is_absent = p.is_absent || is_none n;
  outer = outer_after names p n;
}

abbrev pub before_others : Place → (others : Bool) → Place
before_others p others = record p { is_last = p.is_last && not others }

abbrev pub in_a_branch : Place → Place
in_a_branch p = record p { in_branch = true; is_last = false }

-- ---- cases

abbrev mutual
  pub has_cases : STypeTree → Bool
  has_cases (stype s bs a n cs) = has_cases_in a

  pub has_cases_in : AtomTree → Bool
  has_cases_in (cell c) = false
  has_cases_in (paren t) = has_cases t
  has_cases_in (tagged u tag fs) = some_field_has_cases fs
  has_cases_in (product ts a) = some_type_has_cases ts
  has_cases_in (cases bs) = true

  pub some_type_has_cases : STypeTrees → Bool
  some_type_has_cases no_type = false
  some_type_has_cases (also_type t ts) = has_cases t || some_type_has_cases ts

  pub some_field_has_cases : SFieldTrees → Bool
  some_field_has_cases no_field = false
  some_field_has_cases (also_field f t fs) = has_cases t || some_field_has_cases fs

-- ---- types: `seen` where cases stand before it in its region

abbrev pub some_type : STypeTrees → Bool
some_type no_type = false
some_type (also_type t ts) = true

abbrev pub some_field : SFieldTrees → Bool
some_field no_field = false
some_field (also_field f t fs) = true

abbrev pub unless_span : (right : Bool) → Span → List Span
unless_span true s = []
unless_span false s = s ∷ []

-- the binders of a type that is written out at least once
abbrev pub undetermined_binders : Place → STypeTree → List WordTree → List Span
undetermined_binders p t bs = if p.is_absent then [] else undetermined_by t bs

abbrev mutual
  pub undetermined_in_type : (names : List (List ℕ)) → Place → (seen : Bool) → STypeTree → List Span
  undetermined_in_type names p seen (stype s bs a n cs) =
      unless_span (type_is_right (with_words names bs) p seen n a) s
      ++ (undetermined_binders p (stype s bs a n cs) bs
      ++ (undetermined_in_atom (with_words names bs) (inside (with_words names bs) p n) seen a ++ left_in_relations (with_words names bs) p.outer cs))

  pub undetermined_in_atom : (names : List (List ℕ)) → Place → (seen : Bool) → AtomTree → List Span
  undetermined_in_atom names p seen (cell c) = left_in_kind names p.outer c.kind
  undetermined_in_atom names p seen (paren t) = undetermined_in_type names p seen t
  undetermined_in_atom names p seen (tagged u tag fs) = undetermined_in_fields names p seen fs
  undetermined_in_atom names p seen (product ts a) = undetermined_in_types names p seen ts
  undetermined_in_atom names p seen (cases bs) = undetermined_in_branches names (in_a_branch p) bs

  pub undetermined_in_types : (names : List (List ℕ)) → Place → (seen : Bool) → STypeTrees → List Span
  undetermined_in_types names p seen no_type = []
  undetermined_in_types names p seen (also_type t ts) =
      undetermined_in_type names (before_others p (some_type ts)) seen t ++ undetermined_in_types names p (seen || has_cases t) ts

  pub undetermined_in_fields : (names : List (List ℕ)) → Place → (seen : Bool) → SFieldTrees → List Span
  undetermined_in_fields names p seen no_field = []
  undetermined_in_fields names p seen (also_field f t fs) =
      undetermined_in_type names (before_others p (some_field fs)) seen t ++ undetermined_in_fields names p (seen || has_cases t) fs

  -- cases in a branch are not the first of the region
  pub undetermined_in_branches : (names : List (List ℕ)) → Place → SBranchTrees → List Span
  undetermined_in_branches names p no_branch = []
  undetermined_in_branches names p (also_branch g t bs) =
      (left_in_relations names p.outer g ++ undetermined_in_type names p true t) ++ undetermined_in_branches names p bs

-- in a type, once its binders are among the names
abbrev pub undetermined_inside : (names : List (List ℕ)) → Place → (seen : Bool) → STypeTree → List Span
undetermined_inside names p seen (stype s bs a n cs) =
    unless_span (type_is_right names p seen n a) s
    ++ (undetermined_binders p (stype s bs a n cs) bs
    ++ (undetermined_in_atom names (inside names p n) seen a ++ left_in_relations names p.outer cs))

-- in its atom and its conditions
abbrev pub undetermined_behind : (names : List (List ℕ)) → Place → (seen : Bool) → STypeTree → List Span
undetermined_behind names p seen (stype s bs a n cs) = undetermined_in_atom names (inside names p n) seen a ++ left_in_relations names p.outer cs

abbrev pub undetermined_in_branch : (names : List (List ℕ)) → Place → SBranchTree → List Span
undetermined_in_branch names p b = left_in_relations names p.outer b.guard ++ undetermined_in_type names p true b.body

-- ---- items

abbrev pub undetermined_in_region : item.RegionItemTree → List Span
undetermined_in_region r = undetermined_in_type [] whole_region false r.body

-- the cell of a result determines its binders
abbrev pub undetermined_in_result : Option item.SResultTree → List Span
undetermined_in_result None = []
undetermined_in_result (Some r) = undetermined_by_cell r.cell r.binders

-- the arguments determine the binders of a function
abbrev pub undetermined_in_function : item.FuncItemTree → List Span
undetermined_in_function f = undetermined_by_cells f.args f.binders ++ undetermined_in_result f.result

abbrev pub undetermined_in_item : item.TypeItemTree → List Span
undetermined_in_item (item.region r) = undetermined_in_region r
undetermined_in_item (item.func f) = undetermined_in_function f
undetermined_in_item (item.alloc a) = []
undetermined_in_item (item.global g) = []

abbrev pub undetermined_in_items : List item.TypeItemTree → List Span
undetermined_in_items items = flat_map undetermined_in_item items

-- the places at which a symbol is not determined, in order of the text
abbrev pub undetermined : item.SurfaceTree → List Span
undetermined s = undetermined_in_items s.items
