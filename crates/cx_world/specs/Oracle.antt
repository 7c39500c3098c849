-- What the types of a type file say of memories, calls and allocations, as functions that decide it.
use Rattle.std.specs.Prelude.{ℕ, ℤ, Bool, List, Option}
use Rattle.cx_base.specs.declared.memory.Region.{Region}
use Rattle.cx_ctree.specs.Types.{TypeTree}

-- the region that an allocator's call asks for
pub record Asked : Type 0 where
  -- the place of its type
  pub region : ℕ
  pub args : List ℤ
  pub size : ℕ
  -- its bytes are 0
  pub zero : Bool

pub record Oracle : Type 0 where
  -- others may change regions of the type at this place
  pub is_shared : ℕ → Bool
  -- the regions are a memory
  pub is_memory : List Region → Bool
  -- the region at this place holds its type in the layout of these regions
  pub holds : List Region → ℕ → Bool
  -- the name has a function type, the memory is typed, and the arguments meet the type in it
  pub may_call : (name : ℕ) → (args : List ℤ) → (before : List Region) → Bool
  -- such a call may give this and leave this memory
  pub may_answer : (name : ℕ) → (args : List ℤ) → (before : List Region) → (given : Option ℤ) → (after : List Region) → Bool
  -- the name is that of an allocator
  pub is_allocator : (name : ℕ) → Bool
  -- what a call of the allocator of this name asks for, where its result becomes a pointer to this type; none where the call
  -- meets no allocator's type
  pub asked : (name : ℕ) → (pointee : Option TypeTree) → (args : List ℤ) → Option Asked
  -- the place in memory of the declared global of this name
  pub global : (name : ℕ) → Option ℕ
