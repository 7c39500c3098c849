-- The places of a type file at which sizes are wrong: items in order, in a type parts before wholes, and then in the order of the
-- text.
use Rattle.std.specs.Prelude.{ℕ, Bool, true, false, not, ◌==◌, ◌&&◌, List, [], ◌∷◌, ◌++◌, drop, Option, Some, None}
use Rattle.std.specs.List.{flat_map}
use Rattle.cx_base.specs.declared.span.Span.{Span}
use Rattle.cx_ctree.specs.Types as c
use Rattle.cx_ctree.specs.Decls.{ParamTree, SignatureTree}
use Rattle.cx_ctree.specs.Units.{UnitTree}
use Rattle.cx_tsyn.specs.Cells.{SCellTree, SCellKindTree, any, any_bytes, val, unsigned, signed, ptr}
use Rattle.cx_tsyn.specs.Items.{SResultTree, FuncItemTree, GlobalItemTree, TypeItemTree, region, func, alloc, global, SurfaceTree}
use Rattle.cx_tsyn.specs.Types.{STypeTree, stype_span}
use Rattle.cx_tmeasure.specs.Known.{Known, known_in, function_of, object_of, size_in}
use Rattle.cx_tmeasure.specs.Sizes.{kind_size, cells}
use Rattle.cx_tmeasure.specs.BadTypes.{unless_span, is_scalar, bad_cell, bad_in_type, few_cells}
use Rattle.cx_tsizes.specs.Regions.{Regions, no_regions, with_items, region_in, size_at}

-- ---- regions

-- a region's cells outside its tail
abbrev pub bad_in_region : Known → STypeTree → List Span
bad_in_region k t = bad_in_type k None t ++ unless_span (few_cells (cells t)) (stype_span t)

-- ---- functions

-- an unsigned integer or a pointer
abbrev pub is_unsigned : c.TypeTree → Bool
is_unsigned c.void = true
is_unsigned (c.int t) = not t.signed
is_unsigned (c.pointer t) = true
is_unsigned (c.array t n) = true
is_unsigned (c.tag n) = true

-- the sign that is written is that of an integer type; a pointer is an unsigned number
abbrev pub sign_is_right : c.TypeTree → SCellKindTree → Bool
sign_is_right t any = true
sign_is_right t (any_bytes n) = true
sign_is_right t (val e) = true
sign_is_right t (unsigned n e) = is_unsigned t
sign_is_right t (signed n e) = not (is_unsigned t)
sign_is_right t (ptr r args off null) = is_unsigned t

abbrev pub same_size : Option ℕ → ℕ → Bool
same_size None n = false
same_size (Some m) n = m == n

-- a cell for a parameter or a result of this type
abbrev pub cell_is_right : Known → c.TypeTree → SCellTree → Bool
cell_is_right k t x = is_scalar t && (same_size (size_in k (Some t)) (kind_size k (Some t) x.kind) && sign_is_right t x.kind)

-- cells for parameters or the result of a function that the C file does not declare
abbrev pub bad_cells_alone : Known → List SCellTree → List Span
bad_cells_alone k xs = flat_map (bad_cell k None) xs

-- a cell beside the first of these parameters, if there is one
abbrev pub bad_first : Known → List ParamTree → SCellTree → List Span
bad_first k [] x = bad_cell k None x
bad_first k (p ∷ ps) x = unless_span (cell_is_right k p.ctype x) x.span

-- cells beside the parameters, one by one
abbrev pub bad_cells : Known → List ParamTree → List SCellTree → List Span
bad_cells k ps [] = []
bad_cells k ps (x ∷ xs) = bad_first k ps x ++ bad_cells k (drop 1 ps) xs

abbrev pub is_void : c.TypeTree → Bool
is_void c.void = true
is_void (c.int t) = false
is_void (c.pointer t) = false
is_void (c.array t n) = false
is_void (c.tag n) = false

abbrev pub bad_result : Known → c.TypeTree → Span → Option SResultTree → List Span
bad_result k t s None = unless_span (is_void t) s
bad_result k t s (Some r) = unless_span (cell_is_right k t r.cell) r.cell.span

abbrev pub bad_result_alone : Known → Option SResultTree → List Span
bad_result_alone k None = []
bad_result_alone k (Some r) = bad_cell k None r.cell

-- in the type of a function that the C file does not declare, or declares so
abbrev pub bad_alone : Known → FuncItemTree → List Span
bad_alone k f = bad_cells_alone k f.args ++ bad_result_alone k f.result

abbrev pub bad_declared : Known → SignatureTree → FuncItemTree → List Span
bad_declared k d f = bad_cells k d.params f.args ++ bad_result k d.result f.result_span f.result

abbrev pub bad_beside : Known → Option SignatureTree → FuncItemTree → List Span
bad_beside k None f = bad_alone k f
bad_beside k (Some d) f = bad_declared k d f

abbrev pub bad_in_function : Known → FuncItemTree → List Span
bad_in_function k f = bad_beside k (function_of k f.name) f

-- ---- globals

abbrev pub both_same : Option ℕ → Option ℕ → Bool
both_same None other = false
both_same (Some n) None = false
both_same (Some n) (Some m) = n == m

-- a region of so many bytes is of the size of the object
abbrev pub global_is_right : Known → Regions → GlobalItemTree → Bool
global_is_right k rs g = both_same (size_in k (object_of k g.name)) (size_at (region_in rs g.region) g.args)

abbrev pub bad_global : Known → Regions → GlobalItemTree → List Span
bad_global k rs g = unless_span (global_is_right k rs g) g.name.span

-- ---- the file

abbrev pub bad_in_item : Known → Regions → TypeItemTree → List Span
bad_in_item k rs (region r) = bad_in_region k r.body
bad_in_item k rs (func f) = bad_in_function k f
bad_in_item k rs (alloc a) = []
bad_in_item k rs (global g) = bad_global k rs g

abbrev pub bad_in_items : Known → Regions → List TypeItemTree → List Span
bad_in_items k rs items = flat_map (bad_in_item k rs) items

-- the places at which sizes are wrong: items in order, and parts before wholes
abbrev pub bad_sizes : UnitTree → SurfaceTree → List Span
bad_sizes u s = bad_in_items (known_in u) (with_items (known_in u) no_regions s.items) s.items
