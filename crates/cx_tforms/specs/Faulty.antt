-- The linear forms, relations and divisors of a type file that break their rule, in the order of their last tokens: a linear form is
-- a term, the difference of a relation's sides is one, and a divisor is not 0.
use Rattle.std.specs.Prelude.{Bool, not, ◌==◌, List, [], ◌∷◌, ◌++◌, Option, Some, None, if◌then◌else◌}
use Rattle.std.specs.List.{flat_map}
use Rattle.cx_base.specs.declared.span.Span.{Span}
use Rattle.cx_cword.specs.Reading.{span_between}
use Rattle.cx_tsyn.specs.Lins.{LinTree, RelationTree}
use Rattle.cx_tsyn.specs.Cells.{SCellTree, SCellKindTree, any, any_bytes, val, unsigned, signed, ptr}
use Rattle.cx_tsyn.specs.Types.{STypeTree, stype, AtomTree, cell, paren, tagged, product, cases, STypeTrees, no_type, also_type, SFieldTrees, no_field, also_field, SBranchTree, SBranchTrees, no_branch, also_branch}
use Rattle.cx_tsyn.specs.Items as item
use Rattle.cx_tforms.specs.Terms.{lin_is_term, differences_are_terms}

-- ---- linear forms and relations

-- the place, unless it is right
abbrev pub place_unless : (right : Bool) → Span → List Span
place_unless right s = if right then [] else (s ∷ [])

abbrev pub faulty_lin : LinTree → List Span
faulty_lin l = place_unless (lin_is_term l) l.span

abbrev pub faulty_lins : List LinTree → List Span
faulty_lins ls = flat_map faulty_lin ls

abbrev pub faulty_some_lin : Option LinTree → List Span
faulty_some_lin None = []
faulty_some_lin (Some l) = faulty_lin l

-- from the first token of the left side to the last one of the right
abbrev pub relation_span : RelationTree → Span
relation_span r = span_between r.left.span.first r.right.span.past

unfoldable pub faulty_relation : RelationTree → List Span
faulty_relation r = faulty_lin r.left ++ (faulty_lin r.right ++ place_unless (differences_are_terms r) (relation_span r))

abbrev pub faulty_relations : List RelationTree → List Span
faulty_relations rs = flat_map faulty_relation rs

-- ---- cells

abbrev pub faulty_in_kind : SCellKindTree → List Span
faulty_in_kind any = []
faulty_in_kind (any_bytes n) = []
faulty_in_kind (val e) = faulty_lin e
faulty_in_kind (unsigned n e) = faulty_lin e
faulty_in_kind (signed n e) = faulty_lin e
faulty_in_kind (ptr r args off null) = faulty_lins args ++ faulty_some_lin off

abbrev pub faulty_in_cell : SCellTree → List Span
faulty_in_cell c = faulty_in_kind c.kind

abbrev pub faulty_in_cells : List SCellTree → List Span
faulty_in_cells cs = flat_map faulty_in_cell cs

-- ---- types

-- the length and the conditions of a type
abbrev pub faulty_behind : Option LinTree → List RelationTree → List Span
faulty_behind n cs = faulty_some_lin n ++ faulty_relations cs

abbrev mutual
  pub faulty_in_type : STypeTree → List Span
  faulty_in_type (stype s bs a n cs) = faulty_in_atom a ++ faulty_behind n cs

  pub faulty_in_atom : AtomTree → List Span
  faulty_in_atom (cell c) = faulty_in_cell c
  faulty_in_atom (paren t) = faulty_in_type t
  faulty_in_atom (tagged u tag fs) = faulty_in_fields fs
  faulty_in_atom (product ts a) = faulty_in_types ts
  faulty_in_atom (cases bs) = faulty_in_branches bs

  pub faulty_in_types : STypeTrees → List Span
  faulty_in_types no_type = []
  faulty_in_types (also_type t ts) = faulty_in_type t ++ faulty_in_types ts

  pub faulty_in_fields : SFieldTrees → List Span
  faulty_in_fields no_field = []
  faulty_in_fields (also_field f t fs) = faulty_in_type t ++ faulty_in_fields fs

  pub faulty_in_branches : SBranchTrees → List Span
  faulty_in_branches no_branch = []
  faulty_in_branches (also_branch g t bs) = (faulty_relations g ++ faulty_in_type t) ++ faulty_in_branches bs

abbrev pub faulty_in_branch : SBranchTree → List Span
faulty_in_branch b = faulty_relations b.guard ++ faulty_in_type b.body

-- ---- items

abbrev pub faulty_in_result : Option item.SResultTree → List Span
faulty_in_result None = []
faulty_in_result (Some r) = faulty_in_cell r.cell ++ faulty_relations r.conds

abbrev pub faulty_in_function : item.FuncItemTree → List Span
faulty_in_function f = (faulty_in_cells f.args ++ faulty_relations f.conds) ++ faulty_in_result f.result

-- a divisor that is 0
abbrev pub faulty_argument : item.SArgTree → List Span
faulty_argument (item.number z) = []
faulty_argument (item.param w) = []
faulty_argument (item.over w d s) = place_unless (not (d == 0)) s

abbrev pub faulty_arguments : List item.SArgTree → List Span
faulty_arguments args = flat_map faulty_argument args

abbrev pub faulty_in_item : item.TypeItemTree → List Span
faulty_in_item (item.region r) = faulty_in_type r.body
faulty_in_item (item.func f) = faulty_in_function f
faulty_in_item (item.alloc a) = faulty_arguments a.args
faulty_in_item (item.global g) = []

abbrev pub faulty_in_items : List item.TypeItemTree → List Span
faulty_in_items items = flat_map faulty_in_item items

-- the places of the forms, relations and divisors that break their rule
abbrev pub faulty_forms : item.SurfaceTree → List Span
faulty_forms s = faulty_in_items s.items
