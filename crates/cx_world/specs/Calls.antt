-- Calls of functions and of allocators, and the end of a function.
use Rattle.std.specs.Prelude.{ℕ, ◌==◌, ℤ, pos, Bool, not, ◌&&◌, ◌||◌, if◌then◌else◌, List, [], ◌∷◌, ◌++◌, length, Option, Some, None}
use Rattle.std.specs.List.{list_all}
use Rattle.cx_base.specs.declared.fault.FaultKind.TheVariants as fault
use Rattle.cx_base.specs.declared.memory.Region.{Region}
use Rattle.cx_base.specs.declared.span.Span.{Span}
use Rattle.cx_cells.specs.declared.script.Answer.{Answer}
use Rattle.cx_cells.specs.declared.script.Block.{Block}
use Rattle.cx_ctree.specs.Types.{TypeTree}
use Rattle.cx_world.specs.Oracle.{Oracle, Asked}
use Rattle.cx_world.specs.World.{World, Did, gives, halts, go_on, logged, calls, allocates, faulted, blocked, returned, others}

-- ---- functions

-- the next answer is taken, where it may be one of this call
abbrev pub answered : Oracle → Span → ℕ → List ℤ → List Answer → World → Did (Option ℤ)
answered o s name args [] w = halts blocked w
answered o s name args (a ∷ rest) w =
    if o.may_answer name args w.memory a.result a.memory then gives a.result (logged (calls s name args) (record w { memory = a.memory; script = record w.script { answers = rest } }))
    else halts blocked w

abbrev pub call_function : Oracle → Span → ℕ → List ℤ → World → Did (Option ℤ)
call_function o s name args w = if o.may_call name args w.memory then answered o s name args w.script.answers w else halts (faulted fault.Call s) w

-- ---- allocators

abbrev pub region_at : Asked → Block → Region
region_at a b = record { base = b.base; name = a.region; args = a.args; bytes = b.bytes }

-- the block has the size that is asked for, bytes that are 0 where that is asked, and makes a memory with the regions before it
abbrev pub fits_block : Oracle → Asked → Block → List Region → Bool
fits_block o a b rs = length b.bytes == a.size && ((not a.zero || list_all (λ n. n == 0) b.bytes) && o.is_memory (rs ++ region_at a b ∷ []))

-- the next block is taken, null included
abbrev pub allotted : Oracle → Span → ℕ → Asked → List (Option Block) → World → Did (Option ℤ)
allotted o s name a [] w = halts blocked w
allotted o s name a (None ∷ rest) w = gives (Some (pos 0)) (logged (allocates s name None) (record w { script = record w.script { blocks = rest } }))
allotted o s name a (Some b ∷ rest) w =
    if fits_block o a b w.memory
    then gives (Some (pos b.base)) (logged (allocates s name (Some (region_at a b))) (record w { memory = w.memory ++ region_at a b ∷ []; script = record w.script { blocks = rest } }))
    else halts blocked w

abbrev pub allocate : Oracle → Span → ℕ → Option Asked → World → Did (Option ℤ)
allocate o s name None w = halts (faulted fault.Call s) w
allocate o s name (Some a) w = allotted o s name a w.script.blocks w

-- ---- both

-- a call of the name with these arguments, whose result becomes a pointer to the type, if one is given
abbrev pub call_now : Oracle → Span → ℕ → Option TypeTree → List ℤ → World → Did (Option ℤ)
call_now o s name pointee args w = if o.is_allocator name then allocate o s name (o.asked name pointee args) w else call_function o s name args w

abbrev pub call : Oracle → Span → ℕ → Option TypeTree → List ℤ → World → Did (Option ℤ)
call o s name pointee args w = go_on (others o w) (λ u w. call_now o s name pointee args w)

-- the function's end
abbrev pub leave : Oracle → Option ℤ → World → Did (Unit {0})
leave o v w = go_on (others o w) (λ u w. halts (returned v) w)
