-- What holds of accesses and of changes by others.
use Rattle.std.specs.Prelude.{◌≡◌, ℕ, ℤ, pos, true, false, List, [], Some, slice_get}
use Rattle.cx_base.specs.Memory.{Holds}
use Rattle.cx_base.specs.declared.memory.Region.{Region}
use Rattle.cx_base.specs.declared.number.CInt.{CInt}
use Rattle.cx_base.specs.declared.span.Span.{Span}
use Rattle.cx_cells.specs.declared.script.Change.{Change}
use Rattle.cx_world.specs.Access.{access, load_now, store_now}
use Rattle.cx_world.specs.Oracle.{Oracle}
use Rattle.cx_world.specs.World.{World, gives, logged, reads, writes, can_be_made}

-- so many bytes from the address on lie inside a region that is there
pub record Inside (rs : List Region) (a : ℤ) (size : ℕ) : Type 0 where
  pub place : ℕ
  pub region : Region
  pub there : slice_get rs place ≡ Some region
  pub address : ℕ
  pub is_address : a ≡ pos address
  pub holds : Holds region address size

-- a read that gives a number lies inside a region, is listed, and changes nothing else
abbrev pub ReadsLieInside : Type 0
ReadsLieInside =
    (s : Span) (t : CInt) (a : ℤ) (w : World) (v : ℤ) (after : World) → load_now s t a w ≡ gives v after
    → Inside w.memory a t.size × (after ≡ logged (reads (access s a t w)) w)

-- a write that is done lies inside a region, is listed, and changes nothing but memory
abbrev pub WritesLieInside : Type 0
WritesLieInside =
    (s : Span) (t : CInt) (a v : ℤ) (w : World) (u : Unit {0}) (after : World) → store_now s t a v w ≡ gives u after
    → Inside w.memory a t.size × (rs : List Region) × (after ≡ logged (writes (access s a t (record w { memory = rs }))) (record w { memory = rs }))

-- where no type is shared, nothing can be changed
abbrev pub OnlySharedChange : Type 0
OnlySharedChange =
    (o : Oracle) (c : Change) (rs : List Region) → ((n : ℕ) → o.is_shared n ≡ false) → can_be_made o c rs ≡ true
    → (c.rewrites ≡ []) × (c.added ≡ [])
