-- The names of a type file that are declared twice, in the order of the text: items of one kind with one name, and symbols that
-- are declared where a symbol of their name is known.
use Rattle.std.specs.Prelude.{ℕ, List, [], ◌∷◌, ◌++◌, Option, Some, None}
use Rattle.cx_base.specs.declared.span.Span.{Span}
use Rattle.cx_tsyn.specs.Types.{STypeTree, stype, AtomTree, cell, paren, tagged, product, cases, STypeTrees, no_type, also_type, SFieldTrees, no_field, also_field, SBranchTrees, no_branch, also_branch}
use Rattle.cx_tsyn.specs.Items.{RegionItemTree, SResultTree, FuncItemTree, AllocItemTree, TypeItemTree, region, func, alloc, global, SurfaceTree}
use Rattle.cx_tscope.specs.Scopes.{with_words, doubled_words}
use Rattle.cx_tdoubled.specs.Seen.{Seen, none_seen, doubled_item, seen_with}

-- ---- binders: `names` are the symbols that are known already

abbrev mutual
  pub doubled_in_type : (names : List (List ℕ)) → STypeTree → List Span
  doubled_in_type names (stype s bs a n cs) = doubled_words names bs ++ doubled_in_atom (with_words names bs) a

  pub doubled_in_atom : (names : List (List ℕ)) → AtomTree → List Span
  doubled_in_atom names (cell c) = []
  doubled_in_atom names (paren t) = doubled_in_type names t
  doubled_in_atom names (tagged u tag fs) = doubled_in_fields names fs
  doubled_in_atom names (product ts a) = doubled_in_types names ts
  doubled_in_atom names (cases bs) = doubled_in_branches names bs

  pub doubled_in_types : (names : List (List ℕ)) → STypeTrees → List Span
  doubled_in_types names no_type = []
  doubled_in_types names (also_type t ts) = doubled_in_type names t ++ doubled_in_types names ts

  pub doubled_in_fields : (names : List (List ℕ)) → SFieldTrees → List Span
  doubled_in_fields names no_field = []
  doubled_in_fields names (also_field f t fs) = doubled_in_type names t ++ doubled_in_fields names fs

  pub doubled_in_branches : (names : List (List ℕ)) → SBranchTrees → List Span
  doubled_in_branches names no_branch = []
  doubled_in_branches names (also_branch g t bs) = doubled_in_type names t ++ doubled_in_branches names bs

-- ---- items

abbrev pub doubled_in_region : RegionItemTree → List Span
doubled_in_region r = doubled_words [] r.params ++ doubled_in_type (with_words [] r.params) r.body

abbrev pub doubled_in_result : (names : List (List ℕ)) → Option SResultTree → List Span
doubled_in_result names None = []
doubled_in_result names (Some r) = doubled_words names r.binders

-- the binders of a function are known in its result
abbrev pub doubled_in_function : FuncItemTree → List Span
doubled_in_function f = doubled_words [] f.binders ++ doubled_in_result (with_words [] f.binders) f.result

abbrev pub doubled_in_allocator : AllocItemTree → List Span
doubled_in_allocator a = doubled_words [] a.params

abbrev pub doubled_symbols : TypeItemTree → List Span
doubled_symbols (region r) = doubled_in_region r
doubled_symbols (func f) = doubled_in_function f
doubled_symbols (alloc a) = doubled_in_allocator a
doubled_symbols (global g) = []

abbrev pub doubled_in_items : Seen → List TypeItemTree → List Span
doubled_in_items s [] = []
doubled_in_items s (i ∷ is) = doubled_item s i ++ (doubled_symbols i ++ doubled_in_items (seen_with s i) is)

-- the places of the names that are declared twice, each at its second declaration
abbrev pub doubled_names : SurfaceTree → List Span
doubled_names s = doubled_in_items none_seen s.items
