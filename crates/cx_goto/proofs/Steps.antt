-- More steps change nothing of a run that has ended.
use Rattle.std.proofs.Common.{ℕ, zero, suc, ◌≡◌, ◌+◌, Bool, true, false, cond, nat_le, List, Option, Some, None, subst, arith}
use Rattle.std.specs.Prelude.{slice_get}
use Rattle.cx_base.specs.declared.span.Span.{Span}
use Rattle.cx_goto.specs.declared.code.End.{End}
use Rattle.cx_goto.specs.declared.code.End.TheVariants.{Jump, Branch, Return, Missing}
use Rattle.cx_goto.specs.Machine.{Outcome, ended, follow, Run, act, enter, spend, leave, at_line, at_block, machine, first_locals}
use Rattle.cx_goto.specs.Operations.{relates}
use Rattle.cx_goto.specs.Steps.{MoreSteps}
use Rattle.cx_goto.specs.Trees.{LineTree, BlockTree}
use Rattle.cx_world.specs.Oracle.{Oracle}
use Rattle.cx_world.specs.World.{World, Halt, Did, gives, halts, Locals, local_value}

-- where the first has ended, so has the second
abbrev Keep : Outcome → Outcome → Type 0
Keep p q = (h : Halt) (t : ℕ) (v : World) → p ≡ ended h t v → q ≡ ended h t v

abbrev KeepRun : Run → Run → Type 0
KeepRun f g = (b i : ℕ) (ls : Locals) (n : ℕ) (w : World) → Keep (f b i ls n w) (g b i ls n w)

keep_follow : {A : Type 0} (d : Did A) (n : ℕ) (f g : A → World → Outcome) → ((a : A) (w : World) → Keep (f a w) (g a w)) → Keep (follow d n f) (follow d n g)
keep_follow (gives a w) n f g k = k a w
keep_follow (halts x w) n f g k = λ h t v e. e

keep_enter : (o : Option BlockTree) (to : ℕ) (f g : Run) (ls : Locals) (n : ℕ) (w : World) → KeepRun f g → Keep (enter o to f ls n w) (enter o to g ls n w)
keep_enter None to f g ls n w k = λ h t v e. e
keep_enter (Some b) to f g ls n w k = k to 0 _ n w

keep_jump : (z : Bool) (o : Option BlockTree) (to : ℕ) (f g : Run) (ls : Locals) (n : ℕ) (w : World) → KeepRun f g
    → Keep (cond z (spend n w (λ n. enter o to f ls n w)) (enter o to f ls n w)) (cond z (spend n w (λ n. enter o to g ls n w)) (enter o to g ls n w))
keep_jump true o to f g ls zero w k = λ h t v e. e
keep_jump true o to f g ls (suc n) w k = keep_enter o to f g ls n w k
keep_jump false o to f g ls n w k = keep_enter o to f g ls n w k

keep_leave : (o : Oracle) (blocks : List BlockTree) (x : End) (s : Span) (b : ℕ) (f g : Run) (ls : Locals) (n : ℕ) (w : World) → KeepRun f g → Keep (leave o blocks x s b f ls n w) (leave o blocks x s b g ls n w)
keep_leave o blocks (Jump to) s b f g ls n w k = keep_jump (nat_le to b) (slice_get blocks to) to f g ls n w k
keep_leave o blocks (Branch r x y j m) s b f g ls n w k =
    keep_follow (local_value s x ls w) n _ _
    (λ v w. keep_follow (local_value s y ls w) n _ _ (λ u w. keep_jump (nat_le (cond (relates r v u) j m) b) (slice_get blocks (cond (relates r v u) j m)) (cond (relates r v u) j m) f g ls n w k))
keep_leave o blocks (Return x) s b f g ls n w k = λ h t v e. e
keep_leave o blocks Missing s b f g ls n w k = λ h t v e. e

keep_line : (o : Oracle) (blocks : List BlockTree) (l : Option LineTree) (x : End) (s : Span) (b i : ℕ) (f g : Run) (ls : Locals) (n : ℕ) (w : World) → KeepRun f g
    → Keep (at_line o blocks l x s f b i ls n w) (at_line o blocks l x s g b i ls n w)
keep_line o blocks (Some l) x s b i f g ls n w k = keep_follow (act o l.instr l.span ls w) n _ _ (λ ls w. k b (i + 1) ls n w)
keep_line o blocks None x s b i f g ls n w k = keep_leave o blocks x s b f g ls n w k

keep_block : (o : Oracle) (blocks : List BlockTree) (x : Option BlockTree) (b i : ℕ) (f g : Run) (ls : Locals) (n : ℕ) (w : World) → KeepRun f g → Keep (at_block o blocks x f b i ls n w) (at_block o blocks x g b i ls n w)
keep_block o blocks None b i f g ls n w k = λ h t v e. e
keep_block o blocks (Some x) b i f g ls n w k = keep_line o blocks (slice_get x.lines i) x.end x.span b i f g ls n w k

keeps : (o : Oracle) (blocks : List BlockTree) (j k : ℕ) → KeepRun (machine o blocks j) (machine o blocks (j + k))
keeps o blocks zero k b i ls n w = λ h t v e. absurd (cc e)
keeps o blocks (suc j) k b i ls n w =
    let e : suc (j + k) ≡ suc j + k = omega arith in
    subst (λ x. Keep (machine o blocks (suc j) b i ls n w) (machine o blocks x b i ls n w)) e (keep_block o blocks (slice_get blocks b) b i (machine o blocks j) (machine o blocks (j + k)) ls n w (keeps o blocks j k))

pub more_steps : MoreSteps
more_steps o code j k args turns w h left after e = keep_enter (slice_get code.blocks 0) 0 (machine o code.blocks j) (machine o code.blocks (j + k)) (first_locals code args) turns w (keeps o code.blocks j k) h left after e
