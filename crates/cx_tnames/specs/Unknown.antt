-- The names of a type file that are not known, in the order of the text. A symbol is known where a parameter of its item or a
-- binder of a type around it has its name.
use Rattle.std.specs.Prelude.{ℕ, Bool, List, [], ◌∷◌, ◌++◌, Option, Some, None}
use Rattle.std.specs.List.{flat_map}
use Rattle.cx_base.specs.declared.span.Span.{Span}
use Rattle.cx_ctree.specs.Units.{UnitTree}
use Rattle.cx_tsyn.specs.Words.{WordTree}
use Rattle.cx_tsyn.specs.Lins.{LinPartTree, number, times, symbol, LinTree, RelationTree}
use Rattle.cx_tsyn.specs.Cells.{SCellTree, SCellKindTree, any, any_bytes, val, unsigned, signed, ptr}
use Rattle.cx_tsyn.specs.Types.{STypeTree, stype, AtomTree, cell, paren, tagged, product, cases, STypeTrees, no_type, also_type, SFieldTrees, no_field, also_field, SBranchTree, SBranchTrees, no_branch, also_branch, AsTagTree}
use Rattle.cx_tsyn.specs.Items as item
use Rattle.cx_tscope.specs.Faults.{unless}
use Rattle.cx_tscope.specs.Scopes.{with_words, unknown_word}
use Rattle.cx_tnames.specs.Known.{Known, known_in, is_function, is_object, is_tag, is_field}

-- ---- symbols: `names` are those that are known

abbrev pub unknown_in_part : (names : List (List ℕ)) → LinPartTree → List Span
unknown_in_part names (number z) = []
unknown_in_part names (times z w) = unknown_word names w
unknown_in_part names (symbol w) = unknown_word names w

abbrev pub unknown_in_rest : (names : List (List ℕ)) → List (Bool × LinPartTree) → List Span
unknown_in_rest names ps = flat_map (λ p. unknown_in_part names p.1) ps

abbrev pub unknown_in_lin : (names : List (List ℕ)) → LinTree → List Span
unknown_in_lin names l = unknown_in_part names l.first ++ unknown_in_rest names l.rest

abbrev pub unknown_in_lins : (names : List (List ℕ)) → List LinTree → List Span
unknown_in_lins names ls = flat_map (unknown_in_lin names) ls

abbrev pub unknown_in_some_lin : (names : List (List ℕ)) → Option LinTree → List Span
unknown_in_some_lin names None = []
unknown_in_some_lin names (Some l) = unknown_in_lin names l

abbrev pub unknown_in_relation : (names : List (List ℕ)) → RelationTree → List Span
unknown_in_relation names r = unknown_in_lin names r.left ++ unknown_in_lin names r.right

abbrev pub unknown_in_relations : (names : List (List ℕ)) → List RelationTree → List Span
unknown_in_relations names rs = flat_map (unknown_in_relation names) rs

-- ---- cells

abbrev pub unknown_in_kind : (regions names : List (List ℕ)) → SCellKindTree → List Span
unknown_in_kind regions names any = []
unknown_in_kind regions names (any_bytes n) = []
unknown_in_kind regions names (val e) = unknown_in_lin names e
unknown_in_kind regions names (unsigned n e) = unknown_in_lin names e
unknown_in_kind regions names (signed n e) = unknown_in_lin names e
unknown_in_kind regions names (ptr r args off null) = unknown_word regions r ++ (unknown_in_lins names args ++ unknown_in_some_lin names off)

abbrev pub unknown_in_cell : (regions names : List (List ℕ)) → SCellTree → List Span
unknown_in_cell regions names c = unknown_in_kind regions names c.kind

abbrev pub unknown_in_cells : (regions names : List (List ℕ)) → List SCellTree → List Span
unknown_in_cells regions names cs = flat_map (unknown_in_cell regions names) cs

-- ---- types

abbrev pub unknown_as : Known → Option AsTagTree → List Span
unknown_as k None = []
unknown_as k (Some a) = unless (is_tag k a.union_ a.tag) a.tag

-- in the length and the conditions of a type
abbrev pub unknown_behind : (names : List (List ℕ)) → Option LinTree → List RelationTree → List Span
unknown_behind names n cs = unknown_in_some_lin names n ++ unknown_in_relations names cs

-- a type's binders are known in its atom, its length and its conditions; those of a branch are not known in its guard
abbrev mutual
  pub unknown_in_type : Known → (names : List (List ℕ)) → STypeTree → List Span
  unknown_in_type k names (stype s bs a n cs) =
      unknown_in_atom k (with_words names bs) a ++ unknown_behind (with_words names bs) n cs

  pub unknown_in_atom : Known → (names : List (List ℕ)) → AtomTree → List Span
  unknown_in_atom k names (cell c) = unknown_in_cell k.regions names c
  unknown_in_atom k names (paren t) = unknown_in_type k names t
  unknown_in_atom k names (tagged u tag fs) = unless (is_tag k u tag) tag ++ unknown_in_fields k names u tag fs
  unknown_in_atom k names (product ts a) = unknown_in_types k names ts ++ unknown_as k a
  unknown_in_atom k names (cases bs) = unknown_in_branches k names bs

  pub unknown_in_types : Known → (names : List (List ℕ)) → STypeTrees → List Span
  unknown_in_types k names no_type = []
  unknown_in_types k names (also_type t ts) = unknown_in_type k names t ++ unknown_in_types k names ts

  pub unknown_in_fields : Known → (names : List (List ℕ)) → (u : Bool) → (tag : WordTree) → SFieldTrees → List Span
  unknown_in_fields k names u tag no_field = []
  unknown_in_fields k names u tag (also_field f t fs) =
      unless (is_field k u tag f) f ++ (unknown_in_type k names t ++ unknown_in_fields k names u tag fs)

  pub unknown_in_branches : Known → (names : List (List ℕ)) → SBranchTrees → List Span
  unknown_in_branches k names no_branch = []
  unknown_in_branches k names (also_branch g t bs) =
      (unknown_in_relations names g ++ unknown_in_type k names t) ++ unknown_in_branches k names bs

abbrev pub unknown_in_branch : Known → (names : List (List ℕ)) → SBranchTree → List Span
unknown_in_branch k names b = unknown_in_relations names b.guard ++ unknown_in_type k names b.body

-- in a type, once its binders are known
abbrev pub unknown_inside : Known → (names : List (List ℕ)) → STypeTree → List Span
unknown_inside k names (stype s bs a n cs) = unknown_in_atom k names a ++ unknown_behind names n cs

-- ---- items

abbrev pub unknown_in_region : Known → item.RegionItemTree → List Span
unknown_in_region k r = unknown_in_type k (with_words [] r.params) r.body

-- the binders of a result are known in the result alone
abbrev pub unknown_in_result : Known → (names : List (List ℕ)) → Option item.SResultTree → List Span
unknown_in_result k names None = []
unknown_in_result k names (Some r) =
    unknown_in_cell k.regions (with_words names r.binders) r.cell ++ unknown_in_relations (with_words names r.binders) r.conds

-- the cells of the arguments, then the conditions
abbrev pub unknown_in_taken : Known → (names : List (List ℕ)) → item.FuncItemTree → List Span
unknown_in_taken k names f = unknown_in_cells k.regions names f.args ++ unknown_in_relations names f.conds

abbrev pub unknown_in_function : Known → item.FuncItemTree → List Span
unknown_in_function k f =
    unless (is_function k f.name) f.name
    ++ (unknown_in_taken k (with_words [] f.binders) f ++ unknown_in_result k (with_words [] f.binders) f.result)

abbrev pub unknown_in_argument : (names : List (List ℕ)) → item.SArgTree → List Span
unknown_in_argument names (item.number z) = []
unknown_in_argument names (item.param w) = unknown_word names w
unknown_in_argument names (item.over w d s) = unknown_word names w

abbrev pub unknown_in_arguments : (names : List (List ℕ)) → List item.SArgTree → List Span
unknown_in_arguments names args = flat_map (unknown_in_argument names) args

abbrev pub some_place : Option Span → List Span
some_place None = []
some_place (Some s) = s ∷ []

abbrev pub unknown_factor : (names : List (List ℕ)) → Option WordTree → List Span
unknown_factor names None = []
unknown_factor names (Some w) = unknown_word names w

-- the arguments of the region, then the number of bytes
abbrev pub unknown_in_size : (names : List (List ℕ)) → item.AllocItemTree → List Span
unknown_in_size names a = unknown_in_arguments names a.args ++ (unknown_word names a.bytes ++ unknown_factor names a.times)

-- the struct or union in the C type, then the region with its arguments and the number of bytes
abbrev pub unknown_in_block : Known → item.AllocItemTree → List Span
unknown_in_block k a = some_place a.unknown_tag ++ (unknown_word k.regions a.region ++ unknown_in_size (with_words [] a.params) a)

abbrev pub unknown_in_allocator : Known → item.AllocItemTree → List Span
unknown_in_allocator k a = unless (is_function k a.name) a.name ++ unknown_in_block k a

abbrev pub unknown_in_global : Known → item.GlobalItemTree → List Span
unknown_in_global k g = unless (is_object k g.name) g.name ++ unknown_word k.regions g.region

abbrev pub unknown_in_item : Known → item.TypeItemTree → List Span
unknown_in_item k (item.region r) = unknown_in_region k r
unknown_in_item k (item.func f) = unknown_in_function k f
unknown_in_item k (item.alloc a) = unknown_in_allocator k a
unknown_in_item k (item.global g) = unknown_in_global k g

abbrev pub unknown_in_items : Known → List item.TypeItemTree → List Span
unknown_in_items k items = flat_map (unknown_in_item k) items

-- the places of the names that are not known, in order of the text
abbrev pub unknown_names : UnitTree → item.SurfaceTree → List Span
unknown_names u s = unknown_in_items (known_in u s.items) s.items
