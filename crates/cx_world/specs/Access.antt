-- Reads and writes of memory.
use Rattle.std.specs.Prelude.{ℕ, ◌+◌, ◌-◌, ℤ, pos, negsuc, Bool, ◌&&◌, nat_le, List, slice_get, slice_set, position, Option, Some, None}
use Rattle.cx_base.specs.Memory.{size_of, loaded, stored}
use Rattle.cx_base.specs.declared.fault.FaultKind.TheVariants as fault
use Rattle.cx_base.specs.declared.memory.Region.{Region}
use Rattle.cx_base.specs.declared.number.CInt.{CInt}
use Rattle.cx_base.specs.declared.span.Span.{Span}
use Rattle.cx_world.specs.Oracle.{Oracle}
use Rattle.cx_world.specs.World.{World, Access, Did, gives, halts, go_on, logged, reads, writes, faulted, others}

-- so many bytes from the address on lie inside the region
abbrev pub lies_in : (a size : ℕ) → Region → Bool
lies_in a size r = nat_le r.base a && nat_le (a + size) (r.base + size_of r)

-- a region of a memory and its place
pub record Found : Type 0 where
  pub place : ℕ
  pub region : Region

abbrev pub with_place : ℕ → Option Region → Option Found
with_place i None = None
with_place i (Some r) = Some (record { place = i; region = r })

abbrev pub found_at : List Region → Option ℕ → Option Found
found_at rs None = None
found_at rs (Some i) = with_place i (slice_get rs i)

-- the region in which the bytes lie; none where they lie in no one region
abbrev pub found : List Region → ℤ → ℕ → Option Found
found rs (pos a) size = found_at rs (position (lies_in a size) rs)
found rs (negsuc a) size = None

-- how far an address lies past a region's base
abbrev pub offset_in : Region → ℤ → ℕ
offset_in r (pos a) = a - r.base
offset_in r (negsuc a) = 0

abbrev pub access : Span → ℤ → CInt → World → Access
access s a t w = record { span = s; address = a; size = t.size; memory = w.memory }

abbrev pub fetched : Span → CInt → ℤ → Option Found → World → Did ℤ
fetched s t a None w = halts (faulted fault.Access s) w
fetched s t a (Some f) w = gives (loaded f.region (offset_in f.region a) t.size t.signed) (logged (reads (access s a t w)) w)

-- the number of the type at the address
abbrev pub load_now : Span → CInt → ℤ → World → Did ℤ
load_now s t a w = fetched s t a (found w.memory a t.size) w

abbrev pub load : Oracle → Span → CInt → ℤ → World → Did ℤ
load o s t a w = go_on (others o w) (λ u w. load_now s t a w)

abbrev pub with_region : World → ℕ → Region → World
with_region w i r = record w { memory = slice_set w.memory i r }

abbrev pub put : Span → CInt → ℤ → ℤ → Option Found → World → Did (Unit {0})
put s t a v None w = halts (faulted fault.Access s) w
put s t a v (Some f) w = let w' = with_region w f.place (stored f.region (offset_in f.region a) t.size v) in gives tt (logged (writes (access s a t w')) w')

-- the low bytes of the number stand at the address
abbrev pub store_now : Span → CInt → ℤ → ℤ → World → Did (Unit {0})
store_now s t a v w = put s t a v (found w.memory a t.size) w

abbrev pub store : Oracle → Span → CInt → ℤ → ℤ → World → Did (Unit {0})
store o s t a v w = go_on (others o w) (λ u w. store_now s t a v w)

-- ---- globals

abbrev pub base_at : Option Region → ℤ
base_at None = pos 0
base_at (Some r) = pos r.base

abbrev pub address_at : List Region → Option ℕ → ℤ
address_at rs None = pos 0
address_at rs (Some i) = base_at (slice_get rs i)

-- the address of the global of this name: 0 where the type file does not declare it
abbrev pub address_of : Oracle → ℕ → World → ℤ
address_of o name w = address_at w.memory (o.global name)
