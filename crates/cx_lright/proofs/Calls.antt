-- The code of a call does what the call does.
use Rattle.std.proofs.Common.{ℕ, suc, ℤ, pos, ◌≡◌, ◌+◌, ◌<◌, ◌≤◌, Bool, true, false, List, [], ◌∷◌, ◌++◌, length, Option, Some, None, refl, sym, ap, ◌∙◌, arith}
use Rattle.std.specs.Prelude.{slice_get, is_some, if◌then◌else◌}
use Rattle.cx_base.specs.declared.fault.FaultKind.TheVariants as fault
use Rattle.cx_base.specs.declared.span.Span.{Span}
use Rattle.cx_cconst.specs.Constants.{number_type}
use Rattle.cx_cells.specs.declared.script.Answer.{Answer}
use Rattle.cx_cells.specs.declared.script.Block.{Block}
use Rattle.cx_cmean.specs.Effects.{arguments, called}
use Rattle.cx_cmean.specs.Expressions.{eval}
use Rattle.cx_cmean.specs.Numbers.{number_of, as_type}
use Rattle.cx_cmean.specs.Program.{Program, function_of}
use Rattle.cx_ctree.specs.Exprs.{ExprTree, span_of, CallTree}
use Rattle.cx_ctree.specs.Types.{TypeTree}
use Rattle.cx_goto.specs.Machine as machine
use Rattle.cx_goto.specs.Machine.{Outcome, follow, all_locals, with_result, act}
use Rattle.cx_goto.specs.Trees as trees
use Rattle.cx_lcode.specs.Effects.{arguments_code, call_code}
use Rattle.cx_lcode.specs.Items.{Item, converts}
use Rattle.cx_lcode.specs.Lines.{locals_for, calls}
use Rattle.cx_lcode.specs.Needs.{arguments_need, call_need}
use Rattle.cx_lcode.specs.Places.{last, last_all}
use Rattle.cx_lright.proofs.Lines.{converts_ends}
use Rattle.cx_lright.proofs.Locals.{Matches, Kept, kept_refl, kept_trans, matches_kept, kept_set, get-set_same}
use Rattle.cx_lright.proofs.Machine.{Coded, HasAt, Ends, ends_on, at_line_is, IsLine}
use Rattle.cx_lright.proofs.Needing.{ones}
use Rattle.cx_lright.proofs.Values.{does_of}
use Rattle.cx_lright.specs.Fine.{AllFine, CallFine, is_void}
use Rattle.cx_lright.specs.Right.{GivesNumbers}
use Rattle.cx_world.specs.Calls as world
use Rattle.cx_world.specs.Oracle.{Oracle, Asked}
use Rattle.cx_world.specs.World as world_of
use Rattle.cx_world.specs.World.{World, Halt, Did, gives, halts, go_on, Locals, set_number, others}

-- ---- arguments

-- the numbers stand in locals from t on
abbrev Stand : Locals → ℕ → List ℤ → Type 0
Stand ls t [] = Unit {0}
Stand ls t (v ∷ vs) = (slice_get ls t ≡ Some (Some v)) × Stand ls (t + 1) vs

lowered : (t : ℕ) (ls ms : Locals) → Kept (t + 1) ls ms → Kept t ls ms
lowered t ls ms k = record { same = λ x h. k.same x (omega arith); long = k.long }

arguments_do : (c : Coded) (L : ℕ) (xs : Locals) (q : Span) (es : List ExprTree) (ts : List TypeTree) → AllFine L es → length es ≡ length ts
    → (b i t n : ℕ) (ls : Locals) (w : World) (rest : List Item) (go : List ℤ → World → Outcome) → L ≤ t → t + arguments_need c.program.unit es ts ≤ length ls → Matches L xs ls
    → HasAt c b i (arguments_code c.program.unit q es ts b t rest)
    → ((i' : ℕ) (vs : List ℤ) (w' : World) (ls' : Locals) → HasAt c (last_all es b) i' rest → Kept t ls ls' → Stand ls' t vs → length vs ≡ length es → Ends c (last_all es b) i' ls' n w' (go vs w'))
    → Ends c b i ls n w (follow (arguments c.program xs es ts w) n go)
arguments_do c L xs q [] ts fine count b i t n ls w rest go lo room m h next = next i [] w ls h (kept_refl t ls) tt refl
arguments_do c L xs q (e ∷ es) [] fine count b i t n ls w rest go lo room m h next = absurd (omega (arith, count))
arguments_do c L xs q (e ∷ es) (p ∷ ps) fine count b i t n ls w rest go lo room m h next =
    let d = c.program.unit in let one = (ones d e).val in
    let to = number_type p in let more = arguments_code d q es ps ((last e).val b) (t + 1) rest in
    ends_on c b i n ls w (eval c.program xs e w) (λ v w. go_on (arguments c.program xs es ps w) (λ vs w. gives (as_type (number_of e) to v ∷ vs) w)) go
    ((does_of c L xs q e fine.0).val b i t n ls w (converts (span_of e) (number_of e) to t more) (λ v w. follow (go_on (arguments c.program xs es ps w) (λ vs w. gives (as_type (number_of e) to v ∷ vs) w)) n go) lo (omega (arith, room)) m h
    (λ i1 v w1 ls1 h1 k1 hv. let long1 = k1.long in
    converts_ends c ((last e).val b) i1 t n (span_of e) (number_of e) to ls1 w1 v more _ (omega (arith, room, long1, one)) hv h1
    (λ i2 ls2 h2 k2 hv2. let long2 = k2.long in let k12 = kept_trans t t ls ls1 ls2 (omega arith) k1 k2 in
    ends_on c ((last e).val b) i2 n ls2 w1 (arguments c.program xs es ps w1) (λ vs w. gives (as_type (number_of e) to v ∷ vs) w) go
    (arguments_do c L xs q es ps fine.1 (omega (arith, count)) ((last e).val b) i2 (t + 1) n ls2 w1 rest (λ vs w. go (as_type (number_of e) to v ∷ vs) w) (omega (arith, lo)) (omega (arith, room, long1, long2)) (matches_kept L t xs ls ls2 lo m k12) h2
    (λ i3 vs w3 ls3 h3 k3 hs len. next i3 (as_type (number_of e) to v ∷ vs) w3 ls3 h3 (kept_trans t t ls ls2 ls3 (omega arith) k12 (lowered t ls2 ls3 k3)) (k3.same t (omega arith) ∙ hv2, hs) (ap suc len))))))

-- the line of a call reads them
all_read : (s : Span) (es : List ExprTree) (t : ℕ) (ls : Locals) (w : World) (vs : List ℤ) → Stand ls t vs → length vs ≡ length es → all_locals s (locals_for es t) ls w ≡ gives vs w
all_read s [] t ls w [] h e = refl
all_read s [] t ls w (v ∷ vs) h e = absurd (omega (arith, e))
all_read s (x ∷ es) t ls w [] h e = absurd (omega (arith, e))
all_read s (x ∷ es) t ls w (v ∷ vs) h e =
    ap (λ o. go_on (set_number s o w) (λ v w. go_on (all_locals s (locals_for es (t + 1)) ls w) (λ vs w. gives (v ∷ vs) w))) h.0
    ∙ ap (λ r. go_on r (λ vs w. gives (v ∷ vs) w)) (all_read s es (t + 1) ls w vs h.1 (omega (arith, e)))

-- ---- what a call gives

given_of : {A : Type 0} (a b : A) (v w : World) → gives a v ≡ gives b w → a ≡ b
given_of {A} a b v w e = ap value_of e
  where
    value_of : Did A → A
    value_of (gives x u) = x
    value_of (halts h u) = a

given_not : {A : Type 0} (a : A) (w v : World) (h : Halt) → halts h v ≡ gives a w → ⊥
given_not a w v h e = cc

some_is : (v : ℤ) (a : Option ℤ) (w w' : World) → gives (Some v) w ≡ gives a w' → is_some a ≡ true
some_is v a w w' e = ap is_some (sym (given_of (Some v) a w w' e))

allotted_some : (o : Oracle) (s : Span) (name : ℕ) (k : Asked) (bs : List (Option Block)) (w : World) (a : Option ℤ) (w' : World) → world.allotted o s name k bs w ≡ gives a w' → is_some a ≡ true
allotted_some o s name k [] w a w' e = absurd (given_not a w' w _ e)
allotted_some o s name k (None ∷ bs) w a w' e = some_is (pos 0) a _ w' e
allotted_some o s name k (Some x ∷ bs) w a w' e = by_fit (world.fits_block o k x w.memory) e
  where
    by_fit : (z : Bool)
        → (if z then gives (Some (pos x.base)) (world_of.logged (world_of.allocates s name (Some (world.region_at k x))) (record w { memory = w.memory ++ world.region_at k x ∷ []; script = record w.script { blocks = bs } })) else halts world_of.blocked w) ≡ gives a w'
        → is_some a ≡ true
    by_fit true e = some_is (pos x.base) a _ w' e
    by_fit false e = absurd (given_not a w' w _ e)

allocated_some : (o : Oracle) (s : Span) (name : ℕ) (k : Option Asked) (w : World) (a : Option ℤ) (w' : World) → world.allocate o s name k w ≡ gives a w' → is_some a ≡ true
allocated_some o s name None w a w' e = absurd (given_not a w' w _ e)
allocated_some o s name (Some k) w a w' e = allotted_some o s name k w.script.blocks w a w' e

answered_some : (p : Program) → GivesNumbers p → (s : Span) (name : ℕ) (args : List ℤ) (rs : List Answer) (w : World) (a : Option ℤ) (w' : World) → is_void (function_of p.unit name).result ≡ false
    → world.answered p.oracle s name args rs w ≡ gives a w' → is_some a ≡ true
answered_some p g s name args [] w a w' v e = absurd (given_not a w' w _ e)
answered_some p g s name args (x ∷ rs) w a w' v e = by_answer (p.oracle.may_answer name args w.memory x.result x.memory) refl e
  where
    by_answer : (z : Bool) → p.oracle.may_answer name args w.memory x.result x.memory ≡ z
        → (if z then gives x.result (world_of.logged (world_of.calls s name args) (record w { memory = x.memory; script = record w.script { answers = rs } })) else halts world_of.blocked w) ≡ gives a w' → is_some a ≡ true
    by_answer true q e = ap is_some (sym (given_of x.result a _ w' e)) ∙ g name args w.memory x.result x.memory q v
    by_answer false q e = absurd (given_not a w' w _ e)

call_some : (p : Program) → GivesNumbers p → (s : Span) (name : ℕ) (pointee : Option TypeTree) (args : List ℤ) (w : World) (a : Option ℤ) (w' : World) → is_void (function_of p.unit name).result ≡ false
    → world.call p.oracle s name pointee args w ≡ gives a w' → is_some a ≡ true
call_some p g s name pointee args w a w' v e = after_others (others p.oracle w) e
  where
    by_may : (w1 : World) (z : Bool) → (if z then world.answered p.oracle s name args w1.script.answers w1 else halts (world_of.faulted fault.Call s) w1) ≡ gives a w' → is_some a ≡ true
    by_may w1 true e = answered_some p g s name args w1.script.answers w1 a w' v e
    by_may w1 false e = absurd (given_not a w' w1 _ e)

    by_kind : (w1 : World) (z : Bool) → (if z then world.allocate p.oracle s name (p.oracle.asked name pointee args) w1 else world.call_function p.oracle s name args w1) ≡ gives a w' → is_some a ≡ true
    by_kind w1 true e = allocated_some p.oracle s name (p.oracle.asked name pointee args) w1 a w' e
    by_kind w1 false e = by_may w1 (p.oracle.may_call name args w1.memory) e

    after_others : (d : Did (Unit {0})) → go_on d (λ u w. world.call_now p.oracle s name pointee args w) ≡ gives a w' → is_some a ≡ true
    after_others (gives u w1) e = by_kind w1 (p.oracle.is_allocator name) e
    after_others (halts h w1) e = absurd (given_not a w' w1 _ e)

-- ---- calls

-- one line, with what it gives
line_gives : {A : Type 0} (c : Coded) (b i n : ℕ) (ls : Locals) (w : World) (l : trees.LineTree) (d : Did A) (f : A → Locals) (go : A → World → Outcome) → IsLine c b i l
    → act c.program.oracle l.instr l.span ls w ≡ go_on d (λ a w. gives (f a) w) → ((a : A) (w' : World) → d ≡ gives a w' → Ends c b (i + 1) (f a) n w' (go a w')) → Ends c b i ls n w (follow d n go)
line_gives c b i n ls w l (gives a w') f go h e next =
    let q = next a w' refl in (suc q.0, at_line_is c b i q.0 n ls w l h ∙ ap (λ r. follow r n (λ ls w. machine.machine c.program.oracle c.blocks q.0 b (i + 1) ls n w)) e ∙ q.1)
line_gives c b i n ls w l (halts x w') f go h e next =
    (1, at_line_is c b i 0 n ls w l h ∙ ap (λ r. follow r n (λ ls w. machine.machine c.program.oracle c.blocks 0 b (i + 1) ls n w)) e)

-- what was given stands in the local L
abbrev pub Given : Locals → ℕ → Option ℤ → Type 0
Given ls L None = Unit {0}
Given ls L (Some v) = slice_get ls L ≡ Some (Some v)

given_stands : (L : ℕ) (ls : Locals) (a : Option ℤ) → L < length ls → Kept L ls (with_result L ls a) × Given (with_result L ls a) L a
given_stands L ls None room = (kept_refl L ls, tt)
given_stands L ls (Some v) room = (kept_set L L ls (Some v) (omega arith), get-set_same ls L (Some v) room)

pub call_does : (c : Coded) (L : ℕ) (xs : Locals) (q : Span) (k : CallTree) (pointee : Option TypeTree) → CallFine c.program.unit L k → GivesNumbers c.program
    → (b i n : ℕ) (ls : Locals) (w : World) (rest : List Item) (go : Option ℤ → World → Outcome) → L + call_need c.program.unit k ≤ length ls → Matches L xs ls → HasAt c b i (call_code c.program.unit q k pointee b L rest)
    → ((i' : ℕ) (a : Option ℤ) (w' : World) (ls' : Locals) → HasAt c (last_all k.args b) i' rest → Kept L ls ls' → Given ls' L a → (is_void (function_of c.program.unit k.name).result ≡ false → is_some a ≡ true)
    → Ends c (last_all k.args b) i' ls' n w' (go a w'))
    → Ends c b i ls n w (follow (called c.program xs k pointee w) n go)
call_does c L xs q k pointee fine g b i n ls w rest go room m h next =
    let d = c.program.unit in let ps = (function_of d k.name).params in let o = c.program.oracle in
    ends_on c b i n ls w (arguments c.program xs k.args ps w) (λ vs w. world.call o k.span k.name pointee vs w) go
    (arguments_do c L xs q k.args ps fine.0 fine.1 b i L n ls w (calls k pointee L ∷ rest) (λ vs w. follow (world.call o k.span k.name pointee vs w) n go) (omega arith) (omega (arith, room)) m h
    (λ i1 vs w1 ls1 h1 k1 hs len. let long1 = k1.long in
    line_gives c (last_all k.args b) i1 n ls1 w1 _ (world.call o k.span k.name pointee vs w1) (with_result L ls1) go h1.0
    (read_first (others o w1) (λ u w. world.call_now o k.span k.name pointee vs w) (λ w. all_locals k.span (locals_for k.args L) ls1 w) vs (λ w. all_read k.span k.args L ls1 w vs hs len) (λ vs w. world.call_now o k.span k.name pointee vs w) (λ v w. gives (with_result L ls1 v) w) (λ u w. refl))
    (λ a w' e. let r = given_stands L ls1 a (omega (arith, room, long1)) in
    next (i1 + 1) a w' (with_result L ls1 a) h1.1 (kept_trans L L ls ls1 (with_result L ls1 a) (omega arith) k1 r.0) r.1 (λ v. call_some c.program g k.span k.name pointee vs w1 a w' v e))))
  where
    read_first : {A : Type 0} (d : Did (Unit {0})) (f : Unit {0} → World → Did (Option ℤ)) (all : World → Did (List ℤ)) (vs : List ℤ) → ((w : World) → all w ≡ gives vs w) → (call : List ℤ → World → Did (Option ℤ)) → (fin : Option ℤ → World → Did A)
        → ((u : Unit {0}) (w : World) → call vs w ≡ f u w) → go_on d (λ u w. go_on (all w) (λ vs w. go_on (call vs w) fin)) ≡ go_on (go_on d f) fin
    read_first (gives u w) f all vs e call fin same = ap (λ r. go_on r (λ vs w. go_on (call vs w) fin)) (e w) ∙ ap (λ r. go_on r fin) (same u w)
    read_first (halts h w) f all vs e call fin same = refl
