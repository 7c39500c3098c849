-- How many arguments the names of a type file take, and the members of structs and unions in the order of C.
use Rattle.std.specs.Prelude.{ℕ, Bool, List, [], ◌∷◌, ◌++◌, map, length, Option, Some, None, option_map, option_and_then, position, slice_get, if◌then◌else◌}
use Rattle.std.specs.Str.{bytes_eq}
use Rattle.cx_ctree.specs.Decls.{MemberTree, TagTree, member_tree, tag_tree}
use Rattle.cx_ctree.specs.Units.{UnitTree}
use Rattle.cx_ctree.specs.declared.decl.Member.{Member}
use Rattle.cx_tsyn.specs.Words.{WordTree}
use Rattle.cx_tsyn.specs.Items.{TypeItemTree, region, func, alloc, global}
use Rattle.cx_tscope.specs.Scopes.{is_known}
use Rattle.cx_ctable.specs.Tables.{Table, table_of, table_tree, function_in, tag_in}
use Rattle.cx_tarity.specs.declared.regions.Regions as code
use Rattle.cx_tarity.specs.declared.known.Known as code_of

-- ---- regions: their names, each once, with the numbers of their parameters; of several of one name the first counts

pub record Regions : Type 0 where
  pub names : List (List ℕ)
  pub counts : List ℕ

abbrev pub no_regions : Regions
no_regions = record { names = []; counts = [] }

abbrev pub with_region : Regions → WordTree → (params : ℕ) → Regions
with_region rs w n = if is_known rs.names w then rs else record { names = rs.names ++ w.text ∷ []; counts = rs.counts ++ n ∷ [] }

abbrev pub with_item : Regions → TypeItemTree → Regions
with_item rs (region r) = with_region rs r.name (length r.params)
with_item rs (func f) = rs
with_item rs (alloc a) = rs
with_item rs (global g) = rs

abbrev pub with_items : Regions → List TypeItemTree → Regions
with_items rs [] = rs
with_items rs (i ∷ is) = with_items (with_item rs i) is

-- the number of parameters of the region of this name
abbrev pub params_in : Regions → WordTree → Option ℕ
params_in rs w = option_and_then (slice_get rs.counts) (position (bytes_eq w.text) rs.names)

-- ---- all that is known

pub record Known : Type 0 where
  pub regions : Regions
  -- the names of the C file, and what it declares by their numbers
  pub names : List (List ℕ)
  pub table : Table
  pub tags : List TagTree

abbrev pub known_in : UnitTree → List TypeItemTree → Known
known_in u items = record { regions = with_items no_regions items; names = u.names; table = table_of u; tags = u.tags }

-- the same, of the code
abbrev pub regions_of : code.Regions → Regions
regions_of r = record { names = r.names; counts = r.counts }

abbrev pub known_of : code_of.Known → Known
known_of k = record { regions = regions_of k.regions; names = k.names.now; table = table_tree k.table; tags = map tag_tree k.tags.now }

abbrev pub params_of_region : Known → WordTree → Option ℕ
params_of_region k w = params_in k.regions w

-- the number of the word's name in the C file
abbrev pub number_in : Known → WordTree → Option ℕ
number_in k w = position (bytes_eq w.text) k.names

-- the number of parameters of the function of this name, where the C file declares it
abbrev pub params_of_function : Known → WordTree → Option ℕ
params_of_function k w = option_map (λ s. length s.params) (option_and_then (function_in k.table) (number_in k w))

abbrev pub names_in : Option (List MemberTree) → List ℕ
names_in None = []
names_in (Some ms) = map (λ m. m.name) ms

abbrev pub member_names : Option TagTree → List ℕ
member_names None = []
member_names (Some t) = names_in t.members

abbrev pub tag_of : Known → (u : Bool) → WordTree → Option TagTree
tag_of k u w = option_and_then (slice_get k.tags) (option_and_then (tag_in k.table u) (number_in k w))

-- the names of the members of this struct, or union where u is true, in order; none where it is incomplete
abbrev pub members_of : Known → (u : Bool) → WordTree → List ℕ
members_of k u w = member_names (tag_of k u w)

-- the names of members of the code
abbrev pub names_of : List Member → List ℕ
names_of ms = names_in (Some (map member_tree ms))
