-- The names and types of a type file at which numbers do not agree, in the order of the text: of arguments, of fields, of
-- parameters, or the limits of an item.
use Rattle.std.specs.Prelude.{ℕ, Bool, true, false, not, ◌==◌, ◌&&◌, ◌||◌, nat_lt, List, [], ◌∷◌, ◌++◌, length, Option, Some, None, drop}
use Rattle.std.specs.List.{flat_map}
use Rattle.cx_base.specs.declared.span.Span.{Span}
use Rattle.cx_ctree.specs.Units.{UnitTree}
use Rattle.cx_tsyn.specs.Words.{WordTree}
use Rattle.cx_tsyn.specs.Lins.{RelationTree}
use Rattle.cx_tsyn.specs.Cells.{SCellTree, SCellKindTree, any, any_bytes, val, unsigned, signed, ptr}
use Rattle.cx_tsyn.specs.Types.{STypeTree, stype, stype_span, AtomTree, cell, paren, tagged, product, cases, STypeTrees, no_type, also_type, SFieldTrees, no_field, also_field, SBranchTrees, no_branch, also_branch}
use Rattle.cx_tsyn.specs.Items as item
use Rattle.cx_tscope.specs.Faults.{unless}
use Rattle.cx_tarity.specs.Known.{Known, known_in, number_in, params_of_region, params_of_function, members_of}
use Rattle.cx_tarity.specs.Counts.{most, are_many, has_many}

-- what is known takes as many
abbrev pub agrees : Option ℕ → ℕ → Bool
agrees None n = true
agrees (Some m) n = m == n

-- ---- the arguments of regions

abbrev pub arity_of_region : Known → WordTree → (args : ℕ) → List Span
arity_of_region k w args = unless (agrees (params_of_region k w) args) w

abbrev pub arity_in_kind : Known → SCellKindTree → List Span
arity_in_kind k any = []
arity_in_kind k (any_bytes n) = []
arity_in_kind k (val e) = []
arity_in_kind k (unsigned n e) = []
arity_in_kind k (signed n e) = []
arity_in_kind k (ptr r args off null) = arity_of_region k r (length args)

abbrev pub arity_in_cell : Known → SCellTree → List Span
arity_in_cell k c = arity_in_kind k c.kind

abbrev pub arity_in_cells : Known → List SCellTree → List Span
arity_in_cells k cs = flat_map (arity_in_cell k) cs

-- ---- fields

abbrev pub is_number : ℕ → Option ℕ → Bool
is_number m None = false
is_number m (Some n) = m == n

-- the field's name is that of the first of these members
abbrev pub is_next : Known → (members : List ℕ) → WordTree → Bool
is_next k [] f = false
is_next k (m ∷ ms) f = is_number m (number_in k f)

abbrev pub is_some_left : (members : List ℕ) → Bool
is_some_left [] = false
is_some_left (m ∷ ms) = true

-- each field is the member at its place, and members are missing behind them
abbrev pub are_missing : Known → (members : List ℕ) → SFieldTrees → Bool
are_missing k ms no_field = is_some_left ms
are_missing k ms (also_field f t fs) = is_next k ms f && are_missing k (drop 1 ms) fs

abbrev pub is_empty : SFieldTrees → Bool
is_empty no_field = true
is_empty (also_field f t fs) = false

-- the fields are too few: of a union none, of a struct not all
abbrev pub are_few : Known → (u : Bool) → (members : List ℕ) → SFieldTrees → Bool
are_few k true ms fs = is_empty fs
are_few k false ms fs = are_missing k ms fs

-- the field may stand behind those before it: in a union none stands before it, in a struct these members are left
abbrev pub may_stand : Known → (u : Bool) → (first : Bool) → (members : List ℕ) → WordTree → Bool
may_stand k true first ms f = first
may_stand k false first ms f = is_next k ms f

-- the type unless it is right
abbrev pub unless_type : (right : Bool) → STypeTree → List Span
unless_type true t = []
unless_type false t = stype_span t ∷ []

abbrev mutual
  pub arity_in_type : Known → STypeTree → List Span
  arity_in_type k (stype s bs a n cs) = arity_in_atom k a

  pub arity_in_atom : Known → AtomTree → List Span
  arity_in_atom k (cell c) = arity_in_cell k c
  arity_in_atom k (paren t) = arity_in_type k t
  arity_in_atom k (tagged u tag fs) =
      unless (not (are_few k u (members_of k u tag) fs)) tag ++ arity_in_fields k u true (members_of k u tag) fs
  arity_in_atom k (product ts a) = arity_in_types k ts
  arity_in_atom k (cases bs) = arity_in_branches k bs

  pub arity_in_types : Known → STypeTrees → List Span
  arity_in_types k no_type = []
  arity_in_types k (also_type t ts) = arity_in_type k t ++ arity_in_types k ts

  pub arity_in_fields : Known → (u first : Bool) → (members : List ℕ) → SFieldTrees → List Span
  arity_in_fields k u first ms no_field = []
  arity_in_fields k u first ms (also_field f t fs) =
      unless_type (may_stand k u first ms f) t ++ (arity_in_type k t ++ arity_in_fields k u false (drop 1 ms) fs)

  pub arity_in_branches : Known → SBranchTrees → List Span
  arity_in_branches k no_branch = []
  arity_in_branches k (also_branch g t bs) = arity_in_type k t ++ arity_in_branches k bs

-- ---- items

abbrev pub most_params : ℕ
most_params = 8

-- a part of a function type has more binders or conditions than it may
abbrev pub are_over : List WordTree → List RelationTree → Bool
are_over bs cs = nat_lt most (length bs) || nat_lt most (length cs)

abbrev pub result_is_over : Option item.SResultTree → Bool
result_is_over None = false
result_is_over (Some r) = are_over r.binders r.conds

abbrev pub arity_in_result : Known → Option item.SResultTree → List Span
arity_in_result k None = []
arity_in_result k (Some r) = arity_in_cell k r.cell

abbrev pub region_is_right : item.RegionItemTree → Bool
region_is_right r = not (nat_lt most_params (length r.params) || (are_many r.body || has_many r.body))

abbrev pub function_is_right : Known → item.FuncItemTree → Bool
function_is_right k f =
    agrees (params_of_function k f.name) (length f.args)
    && not (nat_lt most_params (length f.args) || are_over f.binders f.conds || result_is_over f.result)

abbrev pub allocator_is_right : Known → item.AllocItemTree → Bool
allocator_is_right k a = agrees (params_of_function k a.name) (length a.params) && not (nat_lt most_params (length a.params))

abbrev pub arity_in_region : Known → item.RegionItemTree → List Span
arity_in_region k r = unless (region_is_right r) r.name ++ arity_in_type k r.body

abbrev pub arity_in_function : Known → item.FuncItemTree → List Span
arity_in_function k f = unless (function_is_right k f) f.name ++ (arity_in_cells k f.args ++ arity_in_result k f.result)

abbrev pub arity_in_allocator : Known → item.AllocItemTree → List Span
arity_in_allocator k a = unless (allocator_is_right k a) a.name ++ arity_of_region k a.region (length a.args)

abbrev pub arity_in_global : Known → item.GlobalItemTree → List Span
arity_in_global k g = arity_of_region k g.region (length g.args)

abbrev pub arity_in_item : Known → item.TypeItemTree → List Span
arity_in_item k (item.region r) = arity_in_region k r
arity_in_item k (item.func f) = arity_in_function k f
arity_in_item k (item.alloc a) = arity_in_allocator k a
arity_in_item k (item.global g) = arity_in_global k g

abbrev pub arity_in_items : Known → List item.TypeItemTree → List Span
arity_in_items k items = flat_map (arity_in_item k) items

-- the places of the names and types at which numbers do not agree, in order of the text
abbrev pub arity_faults : UnitTree → item.SurfaceTree → List Span
arity_faults u s = arity_in_items (known_in u s.items) s.items
