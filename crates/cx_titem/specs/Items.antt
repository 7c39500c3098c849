-- Which lexemes spell a type file, among what the C file declares.
use Rattle.std.specs.Prelude.{ℕ, List}
use Rattle.cx_cname.specs.Known.{Known}
use Rattle.cx_tsyn.specs.Items.{RegionItemTree, FuncItemTree, AllocItemTree, GlobalItemTree, TypeItemTree, region, func, alloc, global}
use Rattle.cx_tword.specs.declared.lexeme.TypeLexeme.{TypeLexeme}
use Rattle.cx_reader.specs.Lists.{Many}
use Rattle.cx_tregion.specs.Regions.{IsRegion, IsGlobal}
use Rattle.cx_tfunc.specs.Funcs.{IsFunc}
use Rattle.cx_talloc.specs.Allocs.{IsAlloc}

-- a region, a function, an allocator or a global
pub data IsItem (bytes : List ℕ) (env : Known) : List TypeLexeme → TypeItemTree → Type 0 where
  item_region : {a : List TypeLexeme} {x : RegionItemTree} → IsRegion bytes a x → IsItem bytes env a (region x)
  item_func : {a : List TypeLexeme} {x : FuncItemTree} → IsFunc bytes a x → IsItem bytes env a (func x)
  item_alloc : {a : List TypeLexeme} {x : AllocItemTree} → IsAlloc bytes env a x → IsItem bytes env a (alloc x)
  item_global : {a : List TypeLexeme} {x : GlobalItemTree} → IsGlobal bytes a x → IsItem bytes env a (global x)

-- a whole file: items, one behind the other
abbrev pub AreItems : List ℕ → Known → List TypeLexeme → List TypeItemTree → Type 0
AreItems bytes env = Many (IsItem bytes env)
