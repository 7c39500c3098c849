-- The world of a run: memory, what callees, allocators and others will do, and what has been done. What is done in it gives a
-- result and the world after it, or ends the run.
use Rattle.std.specs.Prelude.{ℕ, ◌+◌, ◌==◌, ℤ, Bool, true, false, ◌&&◌, if◌then◌else◌, List, [], ◌∷◌, ◌++◌, length, slice_get, slice_set, Option, Some, None}
use Rattle.std.specs.List.{list_all}
use Rattle.cx_base.specs.declared.fault.FaultKind.{FaultKind}
use Rattle.cx_base.specs.declared.fault.FaultKind.TheVariants as fault
use Rattle.cx_base.specs.declared.memory.Region.{Region}
use Rattle.cx_base.specs.declared.span.Span.{Span}
use Rattle.cx_cells.specs.declared.script.Change.{Change}
use Rattle.cx_cells.specs.declared.script.Rewrite.{Rewrite}
use Rattle.cx_cells.specs.declared.script.Script.{Script}
use Rattle.cx_world.specs.Oracle.{Oracle}

-- a read or a write of so many bytes, and the memory after it
pub record Access : Type 0 where
  pub span : Span
  pub address : ℤ
  pub size : ℕ
  pub memory : List Region

pub data Event : Type 0 where
  reads : Access → Event
  writes : Access → Event
  -- a call that was answered, with its arguments
  calls : (span : Span) (name : ℕ) → List ℤ → Event
  -- an allocator's call that took a block: the new region, or none
  allocates : (span : Span) (name : ℕ) → Option Region → Event

pub record World : Type 0 where
  pub memory : List Region
  pub script : Script
  -- in order
  pub log : List Event

-- why a run is over
pub data Halt : Type 0 where
  returned : Option ℤ → Halt
  faulted : FaultKind → Span → Halt
  turns_spent : Halt
  -- the script has nothing that can come next
  blocked : Halt

pub data Did (A : Type 0) : Type 0 where
  gives : A → World → Did A
  halts : Halt → World → Did A

-- then this
abbrev pub go_on : {A B : Type 0} → Did A → (A → World → Did B) → Did B
go_on (gives a w) next = next a w
go_on (halts h w) next = halts h w

-- the number, or the fault where there is none
abbrev pub number_or : FaultKind → Span → Option ℤ → World → Did ℤ
number_or k s None w = halts (faulted k s) w
number_or k s (Some v) w = gives v w

-- ---- locals

-- the number of each local, none where it is unset
abbrev pub Locals : Type 0
Locals = List (Option ℤ)

abbrev pub set_number : Span → Option (Option ℤ) → World → Did ℤ
set_number s (Some (Some v)) w = gives v w
set_number s _ w = halts (faulted fault.Unset s) w

-- the number of a local that is set
abbrev pub local_value : Span → ℕ → Locals → World → Did ℤ
local_value s x ls w = set_number s (slice_get ls x) w

-- ---- what has been done

abbrev pub logged : Event → World → World
logged e w = record w { log = w.log ++ e ∷ [] }

-- ---- what others do

abbrev pub with_bytes : List ℕ → Option Region → List Region → ℕ → List Region
with_bytes bytes None rs i = rs
with_bytes bytes (Some r) rs i = slice_set rs i (record r { bytes = bytes })

abbrev pub rewritten : List Region → List Rewrite → List Region
rewritten rs [] = rs
rewritten rs (w ∷ ws) = rewritten (with_bytes w.bytes (slice_get rs w.region) rs w.region) ws

-- the memory after the change
abbrev pub changed : Change → List Region → List Region
changed c rs = rewritten rs c.rewrites ++ c.added

-- the region is there, its type is shared, and it has so many bytes
abbrev pub may_rewrite : Oracle → Option Region → ℕ → Bool
may_rewrite o None size = false
may_rewrite o (Some r) size = o.is_shared r.name && length r.bytes == size

-- the last regions, from the place on, hold their types
abbrev pub hold_from : Oracle → List Region → ℕ → List Region → Bool
hold_from o rs i [] = true
hold_from o rs i (r ∷ more) = o.holds rs i && hold_from o rs (i + 1) more

-- Others may do this: they rewrite regions of shared types by as many bytes, and add regions of such types; what is there then
-- is a memory, in which each region that they rewrite or add holds its type.
abbrev pub can_be_made : Oracle → Change → List Region → Bool
can_be_made o c rs =
    list_all (λ w. may_rewrite o (slice_get rs w.region) (length w.bytes)) c.rewrites
    && (list_all (λ r. o.is_shared r.name) c.added
    && (o.is_memory (changed c rs)
    && (list_all (λ w. o.holds (changed c rs) w.region) c.rewrites
    && hold_from o (changed c rs) (length rs) c.added)))

abbrev pub taken : Oracle → List Change → World → Did (Unit {0})
taken o [] w = gives tt w
taken o (c ∷ cs) w =
    if can_be_made o c w.memory then gives tt (record w { memory = changed c w.memory; script = record w.script { changes = cs } })
    else halts blocked w

-- The next change is made, where one is left. What is proved of lowering does not look inside.
unfoldable pub others : Oracle → World → Did (Unit {0})
others o w = taken o w.script.changes w
