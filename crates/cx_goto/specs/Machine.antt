-- What a run of block code does.
use Rattle.std.specs.Prelude.{ℕ, zero, suc, ℤ, ◌+◌, ◌-◌, nat_le, if◌then◌else◌, List, [], ◌∷◌, ◌++◌, length, map, replicate, slice_get, slice_set, Option, Some, None}
use Rattle.cx_base.specs.declared.fault.FaultKind.TheVariants as fault
use Rattle.cx_base.specs.declared.span.Span.{Span}
use Rattle.cx_cconst.specs.Constants.{converted}
use Rattle.cx_goto.specs.declared.code.End.{End}
use Rattle.cx_goto.specs.declared.code.End.TheVariants.{Jump, Branch, Return, Missing}
use Rattle.cx_goto.specs.Operations.{operate, relates}
use Rattle.cx_goto.specs.Trees.{InstrTree, const, copy, unset, global, bin, conv, load, store, call, LineTree, BlockTree, CodeTree}
use Rattle.cx_world.specs.Oracle.{Oracle}
use Rattle.cx_world.specs.World.{World, Halt, Did, gives, halts, go_on, Locals, local_value, others, returned, faulted, turns_spent}
use Rattle.cx_world.specs.Access.{load_now, store_now, address_of}
use Rattle.cx_world.specs.Calls.{call_now}

-- ---- locals

abbrev pub all_locals : Span → List ℕ → Locals → World → Did (List ℤ)
all_locals s [] ls w = gives [] w
all_locals s (x ∷ xs) ls w = go_on (local_value s x ls w) (λ v w. go_on (all_locals s xs ls w) (λ vs w. gives (v ∷ vs) w))

-- the locals from a number on are unset
abbrev pub unset_from : ℕ → Locals → Locals
unset_from k [] = []
unset_from zero (x ∷ xs) = None ∷ unset_from zero xs
unset_from (suc k) (x ∷ xs) = x ∷ unset_from k xs

-- ---- lines

abbrev pub put_in : ℕ → Locals → Did ℤ → Did Locals
put_in d ls r = go_on r (λ v w. gives (slice_set ls d (Some v)) w)

abbrev pub with_result : ℕ → Locals → Option ℤ → Locals
with_result d ls None = ls
with_result d ls (Some v) = slice_set ls d (Some v)

-- a line takes the next change before its locals are read, where it accesses memory or calls
abbrev pub act : Oracle → InstrTree → Span → Locals → World → Did Locals
act o (const d v) s ls w = gives (slice_set ls d (Some v)) w
act o (copy d x) s ls w = put_in d ls (local_value s x ls w)
act o (unset d) s ls w = gives (slice_set ls d None) w
act o (global d name) s ls w = gives (slice_set ls d (Some (address_of o name w))) w
act o (bin d op t x y) s ls w = put_in d ls (go_on (local_value s x ls w) (λ v w. go_on (local_value s y ls w) (λ u w. operate s op t v u w)))
act o (conv d t) s ls w = put_in d ls (go_on (local_value s d ls w) (λ v w. gives (converted t v) w))
act o (load d t a) s ls w = put_in d ls (go_on (others o w) (λ u w. go_on (local_value s a ls w) (λ v w. load_now s t v w)))
act o (store t a x) s ls w = go_on (others o w) (λ u w. go_on (local_value s a ls w) (λ a w. go_on (local_value s x ls w) (λ v w. go_on (store_now s t a v w) (λ u w. gives ls w))))
act o (call d name args pointee) s ls w =
    go_on (others o w) (λ u w. go_on (all_locals s args ls w) (λ vs w. go_on (call_now o s name pointee vs w) (λ v w. gives (with_result d ls v) w)))

-- ---- runs

-- how a run ended, with the turns left and the world; or it has not ended yet, or it went where there is no block
pub data Outcome : Type 0 where
  ended : Halt → (turns : ℕ) → World → Outcome
  unfinished : Outcome
  stuck : Outcome

abbrev pub follow : {A : Type 0} → Did A → ℕ → (A → World → Outcome) → Outcome
follow (gives a w) n next = next a w
follow (halts h w) n next = ended h n w

-- from a block and the place of a line in it, with locals, turns and a world
abbrev pub Run : Type 0
Run = (block line : ℕ) → Locals → (turns : ℕ) → World → Outcome

abbrev pub enter : Option BlockTree → ℕ → Run → Locals → ℕ → World → Outcome
enter None to run ls n w = stuck
enter (Some b) to run ls n w = run to 0 (unset_from b.keep ls) n w

abbrev pub spend : ℕ → World → (ℕ → Outcome) → Outcome
spend zero w go = ended turns_spent 0 w
spend (suc n) w go = go n

-- going to a block that is not after this one takes a turn
abbrev pub jump : List BlockTree → (from to : ℕ) → Run → Locals → ℕ → World → Outcome
jump blocks from to run ls n w = if nat_le to from then spend n w (λ n. enter (slice_get blocks to) to run ls n w) else enter (slice_get blocks to) to run ls n w

abbrev pub result : Span → Option ℕ → Locals → World → Did (Option ℤ)
result s None ls w = gives None w
result s (Some x) ls w = go_on (local_value s x ls w) (λ v w. gives (Some v) w)

-- a return takes the next change before its local is read
abbrev pub leave : Oracle → List BlockTree → End → Span → (from : ℕ) → Run → Locals → ℕ → World → Outcome
leave o blocks (Jump to) s from run ls n w = jump blocks from to run ls n w
leave o blocks (Branch r x y first second) s from run ls n w =
    follow (local_value s x ls w) n (λ v w. follow (local_value s y ls w) n (λ u w. jump blocks from (if relates r v u then first else second) run ls n w))
leave o blocks (Return x) s from run ls n w = follow (go_on (others o w) (λ u w. go_on (result s x ls w) (λ v w. halts (returned v) w))) n (λ (u : Unit {0}) (w : World). stuck)
leave o blocks Missing s from run ls n w = ended (faulted fault.End s) n w

abbrev pub at_line : Oracle → List BlockTree → Option LineTree → End → Span → Run → Run
at_line o blocks (Some line) end s run b i ls n w = follow (act o line.instr line.span ls w) n (λ ls w. run b (i + 1) ls n w)
at_line o blocks None end s run b i ls n w = leave o blocks end s b run ls n w

abbrev pub at_block : Oracle → List BlockTree → Option BlockTree → Run → Run
at_block o blocks None run b i ls n w = stuck
at_block o blocks (Some block) run b i ls n w = at_line o blocks (slice_get block.lines i) block.end block.span run b i ls n w

-- at most so many steps: each does a line, or ends a block
abbrev pub machine : Oracle → List BlockTree → (steps : ℕ) → Run
machine o blocks zero b i ls n w = unfinished
machine o blocks (suc j) b i ls n w = at_block o blocks (slice_get blocks b) (machine o blocks j) b i ls n w

-- the parameters have the arguments, and the other locals are unset
abbrev pub first_locals : CodeTree → List ℤ → Locals
first_locals code args = map (λ v. Some v) args ++ replicate (code.locals - length args) None

-- a run of the code from its first block, for at most so many steps
abbrev pub run_of : Oracle → CodeTree → (steps : ℕ) → (args : List ℤ) → (turns : ℕ) → World → Outcome
run_of o code steps args turns w = enter (slice_get code.blocks 0) 0 (machine o code.blocks steps) (first_locals code args) turns w
