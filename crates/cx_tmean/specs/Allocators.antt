-- What a call of an allocator asks for, which block it may give, and where the objects of the C file stand that a type file names.
use Rattle.std.specs.Prelude.{◌≡◌, ℕ, ℤ, pos, ◌*ℤ◌, List, [], ◌∷◌, ◌++◌, length, All, position, find, IsSomeAnd, true, Option, Some, None}
use Rattle.std.specs.Str.{bytes_eq}
use Rattle.cx_base.specs.Memory.{IsArgument}
use Rattle.cx_base.specs.declared.memory.Region.{Region}
use Rattle.cx_cells.specs.Typing.{IsMemory}
use Rattle.cx_cells.specs.declared.script.Block.{Block}
use Rattle.cx_tsyn.specs.Words.{WordTree, has_text}
use Rattle.cx_tsyn.specs.Items.{SArgTree, number, param, over, AllocItemTree, GlobalItemTree, TypeItemTree, region, func, alloc, global, SurfaceTree}
use Rattle.cx_tmeasure.specs.Known.{Known}
use Rattle.cx_tmean.specs.Values.{no_values, with_values}
use Rattle.cx_tmean.specs.Sizes.{region_bytes}
use Rattle.cx_tmean.specs.Memories.{regions_in, names_of}

-- ---- calls of an allocator

-- z is this argument of the new region, where the allocator's names stand for the numbers that it is called with
abbrev pub IsAllocArg : (List ℕ → ℤ) → SArgTree → ℤ → Type 0
IsAllocArg v (number n) z = z ≡ n
IsAllocArg v (param w) z = z ≡ v w.text
IsAllocArg v (over w d s) z = z *ℤ pos d ≡ v w.text

abbrev pub AreAllocArgs : (List ℕ → ℤ) → List SArgTree → List ℤ → Type 0
AreAllocArgs v [] [] = Unit {0}
AreAllocArgs v [] (z ∷ zs) = ⊥
AreAllocArgs v (a ∷ rest) [] = ⊥
AreAllocArgs v (a ∷ rest) (z ∷ zs) = IsAllocArg v a z × AreAllocArgs v rest zs

-- how many bytes are asked for
abbrev pub asked_times : (List ℕ → ℤ) → WordTree → Option WordTree → ℤ
asked_times v bytes None = v bytes.text
asked_times v bytes (Some times) = v bytes.text *ℤ v times.text

abbrev pub asked_bytes : AllocItemTree → (given : List ℤ) → ℤ
asked_bytes a given = asked_times (with_values a.params given no_values) a.bytes a.times

-- a call of the allocator with the given numbers asks for a region of its type with these arguments and so many bytes
pub record AllocMeets (k : Known) (s : SurfaceTree) (a : AllocItemTree) (given args : List ℤ) (size : ℕ) : Type 0 where
  pub count : length given ≡ length a.params
  pub each : AreAllocArgs (with_values a.params given no_values) a.args args
  pub ranges : All IsArgument args
  pub sized : IsSomeAnd (find (λ r. has_text a.region.text r.name) (regions_in s.items)) (λ r. region_bytes k r args ≡ Some size)
  pub asked : asked_bytes a given ≡ pos size

-- the place of the region type of this name
abbrev pub place_of : SurfaceTree → WordTree → Option ℕ
place_of s w = position (bytes_eq w.text) (names_of (regions_in s.items))

-- the region of the type at this place that stands at the block
abbrev pub region_at : (name : ℕ) → List ℤ → Block → Region
region_at name args b = record { base = b.base; name = name; args = args; bytes = b.bytes }

-- the block is one that the allocator may give: of that size, all 0 where it says so, and a memory with the regions before it
pub record BlockMeets (s : SurfaceTree) (a : AllocItemTree) (args : List ℤ) (size : ℕ) (before : List Region) (b : Block) : Type 0 where
  pub sized : length b.bytes ≡ size
  pub zero : a.zero ≡ true → All (λ n. n ≡ 0) b.bytes
  pub memory : IsSomeAnd (place_of s a.region) (λ name. IsMemory (before ++ region_at name args b ∷ []))

-- ---- objects

-- the objects that the type file names, in order
abbrev pub globals_in : List TypeItemTree → List GlobalItemTree
globals_in [] = []
globals_in (region r ∷ is) = globals_in is
globals_in (func f ∷ is) = globals_in is
globals_in (alloc a ∷ is) = globals_in is
globals_in (global g ∷ is) = g ∷ globals_in is

-- the region is that of the object
pub record IsObject (s : SurfaceTree) (g : GlobalItemTree) (r : Region) : Type 0 where
  pub named : place_of s g.region ≡ Some r.name
  pub given : r.args ≡ g.args

-- the first regions of the memory are those of the objects, in this order
abbrev pub ObjectsStandFirst : SurfaceTree → List GlobalItemTree → List Region → Type 0
ObjectsStandFirst s [] rs = Unit {0}
ObjectsStandFirst s (g ∷ gs) [] = ⊥
ObjectsStandFirst s (g ∷ gs) (r ∷ rs) = IsObject s g r × ObjectsStandFirst s gs rs
