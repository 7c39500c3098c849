-- What the names of a type file may stand for: the regions of the file, and what the C file declares.
use Rattle.std.specs.Prelude.{ℕ, Bool, false, List, [], ◌∷◌, Option, position}
use Rattle.std.specs.List.{flat_map}
use Rattle.std.specs.Option.{option_map_or}
use Rattle.std.specs.Str.{bytes_eq}
use Rattle.cx_tsyn.specs.Words.{WordTree}
use Rattle.cx_tsyn.specs.Items.{TypeItemTree, region, func, alloc, global}
use Rattle.cx_ctree.specs.Units.{UnitTree}
use Rattle.cx_cindex.specs.declared.declared.Declared.{Declared}
use Rattle.cx_cindex.specs.UnitNames.{declared_in, has_function, has_object, has_tag, has_field}
use Rattle.cx_tscope.specs.Scopes.{with_words}
use Rattle.cx_tnames.specs.declared.known.Known as code

pub record Known : Type 0 where
  -- the names of the regions, each once
  pub regions : List (List ℕ)
  -- the names of the C file, in the order of their numbers
  pub names : List (List ℕ)
  -- what the C file declares, by these numbers
  pub declared : Declared

-- the name of a region item
abbrev pub region_word : TypeItemTree → List WordTree
region_word (region r) = r.name ∷ []
region_word (func f) = []
region_word (alloc a) = []
region_word (global g) = []

abbrev pub region_words : List TypeItemTree → List WordTree
region_words items = flat_map region_word items

-- what is known in a type file of these items beside a C file of this unit; a region may be named before its item
abbrev pub known_in : UnitTree → List TypeItemTree → Known
known_in u items = record { regions = with_words [] (region_words items); names = u.names; declared = declared_in u }

-- the same, of the code
abbrev pub known_of : code.Known → Known
known_of k = record { regions = k.regions; names = k.names.now; declared = k.declared }

-- the number of the word's name in the C file
abbrev pub number_of : Known → WordTree → Option ℕ
number_of k w = position (bytes_eq w.text) k.names

-- the C file declares a function of this name, or a piece of it that was passed over names one
abbrev pub is_function : Known → WordTree → Bool
is_function k w = option_map_or (has_function k.declared) (number_of k w) false

-- the C file declares an object of this name
abbrev pub is_object : Known → WordTree → Bool
is_object k w = option_map_or (has_object k.declared) (number_of k w) false

-- the C file names a struct so, or a union where u is true
abbrev pub is_tag : Known → (u : Bool) → WordTree → Bool
is_tag k u w = option_map_or (has_tag k.declared u) (number_of k w) false

-- this struct, or union where u is true, has a member of that name
abbrev pub is_field : Known → (u : Bool) → (tag name : WordTree) → Bool
is_field k u tag name =
    option_map_or (λ t. option_map_or (λ n. has_field k.declared u (record { tag = t; name = n })) (number_of k name) false) (number_of k tag) false
