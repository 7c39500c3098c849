-- Where items stand in code, and how a run goes on from there.
use Rattle.std.proofs.Common.{ℕ, suc, ℤ, ◌≡◌, ◌+◌, ◌<◌, ◌≤◌, Bool, true, false, List, [], ◌∷◌, Option, Some, None, refl, sym, ap, ◌∙◌}
use Rattle.std.specs.Prelude.{slice_get, if◌then◌else◌}
use Rattle.std.proofs.lemmas.Bool.{lt-leb, le-leb}
use Rattle.cx_base.specs.declared.span.Span.{Span}
use Rattle.cx_goto.specs.Machine.{Outcome, ended, stuck, follow, unset_from, act, enter, spend, jump, result, leave, at_line, at_block, machine}
use Rattle.cx_goto.specs.Operations.{relates}
use Rattle.cx_goto.specs.Trees.{LineTree, BlockTree}
use Rattle.cx_goto.specs.declared.code.End.{End}
use Rattle.cx_goto.specs.declared.code.End.TheVariants.{Jump, Branch, Return}
use Rattle.cx_goto.specs.declared.code.Rel.{Rel}
use Rattle.cx_lcode.specs.Items.{Item, line, start}
use Rattle.cx_cmean.specs.Program.{Program}
use Rattle.cx_world.specs.World.{World, returned, Did, gives, halts, go_on, Locals, set_number, local_value, others, turns_spent}

-- the whole code of a function of the program, and how its last block ends
pub record Coded : Type 0 where
  pub program : Program
  pub blocks : List BlockTree
  pub last_end : End
  pub last_span : Span

abbrev pub IsLine : Coded → (b i : ℕ) → LineTree → Type 0
IsLine c b i l = (k : BlockTree) × (slice_get c.blocks b ≡ Some k) × (slice_get k.lines i ≡ Some l)

abbrev pub IsEnd : Coded → (b i : ℕ) → End → Span → Type 0
IsEnd c b i e s = (k : BlockTree) × (slice_get c.blocks b ≡ Some k) × (slice_get k.lines i ≡ None) × (k.end ≡ e) × (k.span ≡ s)

abbrev pub Keeps : Coded → (b n : ℕ) → Type 0
Keeps c b n = (k : BlockTree) × (slice_get c.blocks b ≡ Some k) × (k.keep ≡ n)

-- the items stand in the code from this place on
abbrev pub HasAt : Coded → (b i : ℕ) → List Item → Type 0
HasAt c b i [] = IsEnd c b i c.last_end c.last_span
HasAt c b i (line l ∷ is) = IsLine c b i l × HasAt c b (i + 1) is
HasAt c b i (start e s n ∷ is) = IsEnd c b i e s × Keeps c (b + 1) n × HasAt c (b + 1) 0 is

-- ---- how a run ends

-- a run from this place ends so
abbrev pub Ends : Coded → (b i : ℕ) → Locals → ℕ → World → Outcome → Type 0
Ends c b i ls n w o = (j : ℕ) × (machine c.program.oracle c.blocks j b i ls n w ≡ o)

pub ends_as : (c : Coded) (b i n : ℕ) (ls : Locals) (w : World) (o p : Outcome) → o ≡ p → Ends c b i ls n w o → Ends c b i ls n w p
ends_as c b i n ls w o p e h = (h.0, h.1 ∙ e)

pub at_line_is : (c : Coded) (b i j n : ℕ) (ls : Locals) (w : World) (l : LineTree) → IsLine c b i l
    → machine c.program.oracle c.blocks (suc j) b i ls n w ≡ follow (act c.program.oracle l.instr l.span ls w) n (λ ls w. machine c.program.oracle c.blocks j b (i + 1) ls n w)
at_line_is c b i j n ls w l h =
    let run = machine c.program.oracle c.blocks j in
    ap (λ o. at_block c.program.oracle c.blocks o run b i ls n w) h.1 ∙ ap (λ o. at_line c.program.oracle c.blocks o h.0.end h.0.span run b i ls n w) h.2

pub at_end_is : (c : Coded) (b i j n : ℕ) (ls : Locals) (w : World) (e : End) (s : Span) → IsEnd c b i e s
    → machine c.program.oracle c.blocks (suc j) b i ls n w ≡ leave c.program.oracle c.blocks e s b (machine c.program.oracle c.blocks j) ls n w
at_end_is c b i j n ls w e s h =
    let run = machine c.program.oracle c.blocks j in
    ap (λ o. at_block c.program.oracle c.blocks o run b i ls n w) h.1 ∙ ap (λ o. at_line c.program.oracle c.blocks o h.0.end h.0.span run b i ls n w) h.2
    ∙ ap (λ f. leave c.program.oracle c.blocks f h.0.span b run ls n w) h.3 ∙ ap (λ z. leave c.program.oracle c.blocks e z b run ls n w) h.4

pub follow_on : {A B : Type 0} (d : Did A) (f : A → World → Did B) (n : ℕ) (go : B → World → Outcome) → follow (go_on d f) n go ≡ follow d n (λ a w. follow (f a w) n go)
follow_on (gives a w) f n go = refl
follow_on (halts h w) f n go = refl

-- what goes on after a first part
pub ends_on : {A B : Type 0} (c : Coded) (b i n : ℕ) (ls : Locals) (w : World) (d : Did A) (f : A → World → Did B) (go : B → World → Outcome)
    → Ends c b i ls n w (follow d n (λ a w. follow (f a w) n go)) → Ends c b i ls n w (follow (go_on d f) n go)
ends_on c b i n ls w d f go h = (h.0, h.1 ∙ sym (follow_on d f n go))

-- one line
pub line_ends : {A : Type 0} (c : Coded) (b i n : ℕ) (ls : Locals) (w : World) (l : LineTree) (d : Did A) (f : A → Locals) (go : A → World → Outcome) → IsLine c b i l
    → act c.program.oracle l.instr l.span ls w ≡ go_on d (λ a w. gives (f a) w) → ((a : A) (w' : World) → Ends c b (i + 1) (f a) n w' (go a w')) → Ends c b i ls n w (follow d n go)
line_ends c b i n ls w l (gives a w') f go h e next =
    let q = next a w' in (suc q.0, at_line_is c b i q.0 n ls w l h ∙ ap (λ r. follow r n (λ ls w. machine c.program.oracle c.blocks q.0 b (i + 1) ls n w)) e ∙ q.1)
line_ends c b i n ls w l (halts x w') f go h e next =
    (1, at_line_is c b i 0 n ls w l h ∙ ap (λ r. follow r n (λ ls w. machine c.program.oracle c.blocks 0 b (i + 1) ls n w)) e)

-- a line that only sets locals
pub still_ends : (c : Coded) (b i n : ℕ) (ls ms : Locals) (w : World) (l : LineTree) (o : Outcome) → IsLine c b i l → act c.program.oracle l.instr l.span ls w ≡ gives ms w → Ends c b (i + 1) ms n w o → Ends c b i ls n w o
still_ends c b i n ls ms w l o h e q = (suc q.0, at_line_is c b i q.0 n ls w l h ∙ ap (λ r. follow r n (λ ls w. machine c.program.oracle c.blocks q.0 b (i + 1) ls n w)) e ∙ q.1)

-- ---- ends of blocks

-- a jump from this block to another ends so
abbrev pub Goes : Coded → (b to : ℕ) → Locals → ℕ → World → Outcome → Type 0
Goes c b to ls n w o = (j : ℕ) × (jump c.blocks b to (machine c.program.oracle c.blocks j) ls n w ≡ o)

pub goes_as : (c : Coded) (b to n : ℕ) (ls : Locals) (w : World) (o p : Outcome) → o ≡ p → Goes c b to ls n w o → Goes c b to ls n w p
goes_as c b to n ls w o p e h = (h.0, h.1 ∙ e)

pub jump_ends : (c : Coded) (b i to n : ℕ) (s : Span) (ls : Locals) (w : World) (o : Outcome) → IsEnd c b i (Jump to) s → Goes c b to ls n w o → Ends c b i ls n w o
jump_ends c b i to n s ls w o h q = (suc q.0, at_end_is c b i q.0 n ls w (Jump to) s h ∙ q.1)

pub branch_ends : (c : Coded) (b i x y n : ℕ) (s : Span) (ls : Locals) (w : World) (r : Rel) (v u : ℤ) (j m : ℕ) (o : Outcome) → IsEnd c b i (Branch r x y j m) s → slice_get ls x ≡ Some (Some v) → slice_get ls y ≡ Some (Some u)
    → Goes c b (if relates r v u then j else m) ls n w o → Ends c b i ls n w o
branch_ends c b i x y n s ls w r v u j m o h hv hu q =
    let run = machine c.program.oracle c.blocks q.0 in (
      suc q.0,
      at_end_is c b i q.0 n ls w (Branch r x y j m) s h
          ∙ ap (λ o. follow (set_number s o w) n (λ v w. follow (local_value s y ls w) n (λ u w. jump c.blocks b (if relates r v u then j else m) run ls n w))) hv
          ∙ ap (λ o. follow (set_number s o w) n (λ u w. jump c.blocks b (if relates r v u then j else m) run ls n w)) hu ∙ q.1,
    )

-- a return of what the local gives
pub return_ends : (c : Coded) (b i n : ℕ) (s : Span) (ls : Locals) (w : World) (x : Option ℕ) (v : Option ℤ) (go : Unit {0} → World → Outcome) → IsEnd c b i (Return x) s
    → ((u : World) → result s x ls u ≡ gives v u) → Ends c b i ls n w (follow (go_on (others c.program.oracle w) (λ u w. halts (returned v) w)) n go)
return_ends c b i n s ls w x v go h e = (1, at_end_is c b i 0 n ls w (Return x) s h ∙ on_each (others c.program.oracle w))
  where
    on_each : (d : Did (Unit {0})) → follow (go_on d (λ u w. go_on (result s x ls w) (λ v w. halts (returned v) w))) n (λ (u : Unit {0}) (w : World). stuck) ≡ follow (go_on d (λ u w. halts (returned v) w)) n go
    on_each (gives u w') = ap (λ r. follow (go_on r (λ v w. halts (returned v) w)) n (λ (u : Unit {0}) (w : World). stuck)) (e w')
    on_each (halts k w') = refl

-- ahead
pub goes_ahead : (c : Coded) (b to keep n : ℕ) (ls : Locals) (w : World) (o : Outcome) → Keeps c to keep → b < to → Ends c to 0 (unset_from keep ls) n w o → Goes c b to ls n w o
goes_ahead c b to keep n ls w o h lt q =
    let run = machine c.program.oracle c.blocks q.0 in (
      q.0,
      ap (λ z. if z then spend n w (λ n. enter (slice_get c.blocks to) to run ls n w) else enter (slice_get c.blocks to) to run ls n w) (lt-leb to b lt)
          ∙ ap (λ o. enter o to run ls n w) h.1 ∙ ap (λ k. run to 0 (unset_from k ls) n w) h.2 ∙ q.1,
    )

-- back, where a turn is left
pub goes_back : (c : Coded) (b to keep n : ℕ) (ls : Locals) (w : World) (o : Outcome) → Keeps c to keep → to ≤ b → Ends c to 0 (unset_from keep ls) n w o → Goes c b to ls (suc n) w o
goes_back c b to keep n ls w o h le q =
    let run = machine c.program.oracle c.blocks q.0 in (
      q.0,
      ap (λ z. if z then spend (suc n) w (λ n. enter (slice_get c.blocks to) to run ls n w) else enter (slice_get c.blocks to) to run ls (suc n) w) (le-leb to b le)
          ∙ ap (λ o. enter o to run ls n w) h.1 ∙ ap (λ k. run to 0 (unset_from k ls) n w) h.2 ∙ q.1,
    )

-- back, where none is left
pub goes_spent : (c : Coded) (b to : ℕ) (ls : Locals) (w : World) → to ≤ b → Goes c b to ls 0 w (ended turns_spent 0 w)
goes_spent c b to ls w le =
    let run = machine c.program.oracle c.blocks 0 in
    (0, ap (λ z. if z then spend 0 w (λ n. enter (slice_get c.blocks to) to run ls n w) else enter (slice_get c.blocks to) to run ls 0 w) (le-leb to b le))

-- to one of two blocks
pub goes_either : {B : Type 0} (c : Coded) (b j m n : ℕ) (ls : Locals) (w : World) (F : B → Outcome) (x y : B) → Goes c b j ls n w (F x) → Goes c b m ls n w (F y) → (z : Bool)
    → Goes c b (if z then m else j) ls n w (F (if z then y else x))
goes_either c b j m n ls w F x y p q true = q
goes_either c b j m n ls w F x y p q false = p
