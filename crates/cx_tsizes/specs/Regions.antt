-- How many bytes a region takes with its arguments.
use Rattle.std.specs.Prelude.{ℕ, ◌+◌, ◌*◌, ℤ, pos, negsuc, ◌+ℤ◌, ◌*ℤ◌, List, [], ◌∷◌, ◌++◌, Option, Some, None, option_map, option_and_then, position, slice_get, if◌then◌else◌}
use Rattle.std.specs.Str.{bytes_eq}
use Rattle.cx_base.specs.declared.span.Span.{Span}
use Rattle.cx_tsyn.specs.Words.{WordTree}
use Rattle.cx_tsyn.specs.Lins.{LinTree}
use Rattle.cx_tsyn.specs.Items.{RegionItemTree, TypeItemTree, region, func, alloc, global}
use Rattle.cx_tsyn.specs.Types.{STypeTree, stype, AtomTree, cell, paren, tagged, product, cases, STypeTrees, no_type, also_type}
use Rattle.cx_tscope.specs.Faults.{first}
use Rattle.cx_tscope.specs.Scopes.{is_known}
use Rattle.cx_tnumber.specs.Numbers.{sum_of}
use Rattle.cx_tmeasure.specs.Known.{Known}
use Rattle.cx_tmeasure.specs.Sizes.{size, atom_size, is_symbolic}
use Rattle.cx_tmeasure.specs.BadTypes.{bad_in_type}

-- ---- tails

abbrev pub or_tail : Option (LinTree × AtomTree) → Option (LinTree × AtomTree) → Option (LinTree × AtomTree)
or_tail None other = other
or_tail (Some t) other = Some t

-- the array itself, where its length is symbolic
abbrev pub own_tail : Option LinTree → AtomTree → Option (LinTree × AtomTree)
own_tail None a = None
own_tail (Some l) a = if is_symbolic (Some l) then Some (l, a) else None

-- the first array of symbolic length in a type, other than in structs, unions and branches: its length and its element
abbrev mutual
  pub tail_of : STypeTree → Option (LinTree × AtomTree)
  tail_of (stype s bs a n cs) = or_tail (own_tail n a) (tail_in a)

  pub tail_in : AtomTree → Option (LinTree × AtomTree)
  tail_in (cell x) = None
  tail_in (paren t) = tail_of t
  tail_in (tagged u tag fs) = None
  tail_in (product ts a) = tail_in_types ts
  tail_in (cases bs) = None

  pub tail_in_types : STypeTrees → Option (LinTree × AtomTree)
  tail_in_types no_type = None
  tail_in_types (also_type t ts) = or_tail (tail_of t) (tail_in_types ts)

-- ---- a region

pub record RegionSize : Type 0 where
  pub params : List WordTree
  -- the bytes of the type without its tail
  pub head : ℕ
  -- the length of its tail, and the bytes of an element
  pub tail : Option (LinTree × ℕ)

abbrev pub with_bytes : Known → LinTree × AtomTree → LinTree × ℕ
with_bytes k t = (t.0, atom_size k None t.1)

abbrev pub whole_size : Known → RegionItemTree → RegionSize
whole_size k r = record { params = r.params; head = size k None r.body; tail = option_map (with_bytes k) (tail_of r.body) }

abbrev pub unless_bad : Option Span → RegionSize → Option RegionSize
unless_bad None r = Some r
unless_bad (Some s) r = None

-- none where the type is at fault
abbrev pub region_size : Known → RegionItemTree → Option RegionSize
region_size k r = unless_bad (first (bad_in_type k None r.body)) (whole_size k r)

-- what the symbols of a form come to, each parameter at its argument
abbrev pub value_at : (sum : Option (List ℕ) → ℤ) → List WordTree → List ℤ → ℤ
value_at sum [] vs = pos 0
value_at sum (p ∷ ps) [] = pos 0
value_at sum (p ∷ ps) (v ∷ vs) = sum (Some p.text) *ℤ v +ℤ value_at sum ps vs

-- what a form comes to
abbrev pub form_value : LinTree → List WordTree → List ℤ → ℤ
form_value l ps vs = sum_of l None +ℤ value_at (sum_of l) ps vs

-- the bytes of a head and a tail of this length: none where the length is below 0
abbrev pub with_tail : (head : ℕ) → ℤ → (each : ℕ) → Option ℕ
with_tail head (pos n) each = Some (head + n * each)
with_tail head (negsuc n) each = None

abbrev pub size_by : (head : ℕ) → List WordTree → List ℤ → Option (LinTree × ℕ) → Option ℕ
size_by head ps vs None = Some head
size_by head ps vs (Some t) = with_tail head (form_value t.0 ps vs) t.1

-- how many bytes a region with these arguments takes, if its size is known
abbrev pub size_at : Option RegionSize → List ℤ → Option ℕ
size_at None vs = None
size_at (Some r) vs = size_by r.head r.params vs r.tail

-- ---- the regions of a file: their names, each once, with their sizes; of several of one name the first counts

pub record Regions : Type 0 where
  pub names : List (List ℕ)
  pub sizes : List (Option RegionSize)

abbrev pub no_regions : Regions
no_regions = record { names = []; sizes = [] }

abbrev pub with_region : Known → Regions → RegionItemTree → Regions
with_region k rs r = if is_known rs.names r.name then rs else record { names = rs.names ++ r.name.text ∷ []; sizes = rs.sizes ++ region_size k r ∷ [] }

abbrev pub with_item : Known → Regions → TypeItemTree → Regions
with_item k rs (region r) = with_region k rs r
with_item k rs (func f) = rs
with_item k rs (alloc a) = rs
with_item k rs (global g) = rs

abbrev pub with_items : Known → Regions → List TypeItemTree → Regions
with_items k rs [] = rs
with_items k rs (i ∷ is) = with_items k (with_item k rs i) is

abbrev pub just : Option (Option RegionSize) → Option RegionSize
just None = None
just (Some s) = s

-- the region of this name
abbrev pub region_in : Regions → WordTree → Option RegionSize
region_in rs w = just (option_and_then (slice_get rs.sizes) (position (bytes_eq w.text) rs.names))
