-- The names that the items of a type file have so far.
use Rattle.std.specs.Prelude.{ℕ, Bool, not, ◌&&◌, ◌||◌, List, [], ◌∷◌, ◌++◌, map}
use Rattle.std.specs.List.{list_any}
use Rattle.std.specs.Str.{bytes_eq}
use Rattle.cx_base.specs.Names.{numbered}
use Rattle.cx_base.specs.declared.span.Span.{Span}
use Rattle.cx_ctree.specs.Types.{TypeTree, type_tree}
use Rattle.cx_cname.specs.Meanings.{same_type}
use Rattle.cx_tsyn.specs.Words.{WordTree, word_tree}
use Rattle.cx_tsyn.specs.Items.{AllocItemTree, TypeItemTree, region, func, alloc, global}
use Rattle.cx_tscope.specs.Faults.{unless}
use Rattle.cx_tscope.specs.Scopes.{is_known}
use Rattle.cx_tdoubled.specs.declared.seen.Block as code
use Rattle.cx_tdoubled.specs.declared.seen.Seen as code_of

-- an allocator, with the type that its result points to
pub record Block : Type 0 where
  pub name : WordTree
  pub pointee : TypeTree

-- the names of each kind of item, each once, and the allocators with their types
pub record Seen : Type 0 where
  pub regions : List (List ℕ)
  pub functions : List (List ℕ)
  pub allocators : List (List ℕ)
  pub globals : List (List ℕ)
  pub blocks : List Block

abbrev pub none_seen : Seen
none_seen = record { regions = []; functions = []; allocators = []; globals = []; blocks = [] }

abbrev pub block_tree : code.Block → Block
block_tree b = record { name = word_tree b.name; pointee = type_tree b.pointee }

abbrev pub seen_by : code_of.Seen → Seen
seen_by s = record { regions = s.regions; functions = s.functions; allocators = s.allocators; globals = s.globals; blocks = map block_tree s.blocks }

-- one of these allocators has the name and the type
abbrev pub has_block : List Block → WordTree → TypeTree → Bool
has_block bs w t = list_any (λ b. bytes_eq w.text b.name.text && same_type b.pointee t) bs

-- a function of the name of the allocator, or an allocator of its name and type
abbrev pub is_block : Seen → AllocItemTree → Bool
is_block s a = is_known s.functions a.name || has_block s.blocks a.name a.pointee

-- an earlier item stands in the way of an item: a region of its name before a region, a global of its name before a global; a
-- function or an allocator of its name before a function; a function of its name before an allocator, or an allocator of its name and type
abbrev pub is_doubled : Seen → TypeItemTree → Bool
is_doubled s (region r) = is_known s.regions r.name
is_doubled s (func f) = is_known s.functions f.name || is_known s.allocators f.name
is_doubled s (alloc a) = is_block s a
is_doubled s (global g) = is_known s.globals g.name

abbrev pub name_of : TypeItemTree → WordTree
name_of (region r) = r.name
name_of (func f) = f.name
name_of (alloc a) = a.name
name_of (global g) = g.name

-- the name of the item where an earlier item stands in its way
abbrev pub doubled_item : Seen → TypeItemTree → List Span
doubled_item s i = unless (not (is_doubled s i)) (name_of i)

abbrev pub seen_with_block : Seen → AllocItemTree → Seen
seen_with_block s a = record s { allocators = numbered s.allocators a.name.text; blocks = s.blocks ++ record { name = a.name; pointee = a.pointee } ∷ [] }

-- the names once this item has been read too
abbrev pub seen_with : Seen → TypeItemTree → Seen
seen_with s (region r) = record s { regions = numbered s.regions r.name.text }
seen_with s (func f) = record s { functions = numbered s.functions f.name.text }
seen_with s (alloc a) = seen_with_block s a
seen_with s (global g) = record s { globals = numbered s.globals g.name.text }
