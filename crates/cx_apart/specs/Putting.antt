-- What a state becomes when a cell is put: nothing that may lie in the same bytes stays known.
use Rattle.std.specs.Prelude.{◌≡◌, ℕ, ℤ, List, [], ◌∷◌, ◌++◌, length, filter, nat_lt, if◌then◌else◌, false, Option, IsSomeAnd, slice_get, slice_set, Ok, Err}
use Rattle.cx_base.specs.Memory.{stored}
use Rattle.cx_base.specs.Number.{HasSize, wrapped}
use Rattle.cx_base.specs.declared.memory.Region.{Region}
use Rattle.cx_term.specs.Forms.{value}
use Rattle.cx_cells.specs.Layouts.{Extent, layout_of}
use Rattle.cx_cells.specs.Typing.{IsMemory}
use Rattle.cx_state.specs.Run.{Run}
use Rattle.cx_state.specs.Stands.{is_base, region_bases, is_block, visible, IsPrivate, RegionStands, StandsAtAccess, Stands}
use Rattle.cx_state.specs.declared.state.Cell.{Cell}
use Rattle.cx_state.specs.declared.state.Env.{Env}
use Rattle.cx_state.specs.declared.state.EnvFault.TheVariants.{Limit}
use Rattle.cx_state.specs.declared.state.EnvLimit.TheVariants.{Cells}
use Rattle.cx_learn.specs.Answers.{Answer}
use Rattle.cx_apart.specs.Apart.{are_apart, LiesIn}
use Rattle.cx_apart.specs.declared.spots.Spot.{Spot}

-- the bytes of the cell
abbrev pub spot_of : Cell → Spot
spot_of c = record { sym = c.sym; at = c.at; size = c.size }

-- the cells that are shown to lie apart from the spot
abbrev pub apart_from : Env → Spot → List Cell → List Cell
apart_from env a cells = filter (λ c. are_apart env (spot_of c) a) cells

-- the state without the cells that are not
abbrev pub dropped : Env → Spot → Env
dropped env a = record env { cells = apart_from env a env.cells }

-- the state with one cell more
abbrev pub with_cell : Env → Cell → Answer
with_cell env c = if nat_lt (length env.cells) 256 then Ok (record env { cells = env.cells ++ c ∷ [] }) else Err (Limit Cells)

-- the state in which the cell is known, and no cell that may meet it
abbrev pub put : Env → Cell → Answer
put env c = with_cell (dropped env (spot_of c)) c

-- ---- what is put is true

-- the region is no block of a fresh symbol, or it is as the forms say
abbrev pub RegionIs : Run → (ℕ → ℤ) → Env → List Extent → Region → Type 0
RegionIs run v env whole r =
    is_block v env r.base ≡ false
    → IsSomeAnd (slice_get run.forms r.name) (λ form. RegionStands form whole (visible v env whole) (is_base (region_bases v env.facts env.staged) r.base) r)

-- the second memory is the first after a store of the number z into the spot; the stored region is as the forms say, unless its
-- head need not be
pub record Stores (run : Run) (v : ℕ → ℤ) (env : Env) (memory : List Region) (a : Spot) (z : ℤ) (after : List Region) : Type 0 where
  pub i : ℕ
  pub lies : LiesIn v env memory a i
  pub is : after ≡ slice_set memory i (stored lies.r lies.at a.size z)
  pub memory_after : IsMemory after
  pub region : RegionIs run v env (layout_of memory) (stored lies.r lies.at a.size z)

-- after such a store the second state stands where the first stood before it
pub record StandsAfter (run : Run) (v : ℕ → ℤ) (env next : Env) (before after : List Region) : Type 0 where
  pub at_access : (locals : List (Option ℤ)) → StandsAtAccess run v env locals before → StandsAtAccess run v next locals after
  pub stands : (locals : List (Option ℤ)) → Stands run v env locals before → Stands run v next locals after

abbrev pub DropStands : Env → Spot → Env → Type 0
DropStands env a next = (run : Run) (v : ℕ → ℤ) (before : List Region) (z : ℤ) (after : List Region) → Stores run v env before a z after → StandsAfter run v env next before after

-- the bytes of the cell that the number writes read as its value
pub record ReadsAs (v : ℕ → ℤ) (c : Cell) (z : ℤ) : Type 0 where
  pub sized : HasSize c.size
  pub reads : wrapped c.size c.signed z ≡ value v c.value

-- the same where the cell is put, in a region whose type is not shared
abbrev pub PutStands : Env → Cell → Env → Type 0
PutStands env c next =
    (run : Run) (v : ℕ → ℤ) (before : List Region) (z : ℤ) (after : List Region) (s : Stores run v env before (spot_of c) z after)
    → ReadsAs v c z
    → IsPrivate run.forms s.lies.f.name
    → StandsAfter run v env next before after
