-- The code of a loop does what the loop does.
use Rattle.std.proofs.Common.{ℕ, ◌+◌, ◌<◌, ◌≤◌, Bool, true, false, List, ◌∷◌, length, Option, Some, None, sym, arith}
use Rattle.std.specs.Prelude.{if◌then◌else◌}
use Rattle.cx_base.specs.declared.span.Span.{Span}
use Rattle.cx_base.specs.declared.token.Token.{Token}
use Rattle.cx_cmean.specs.Effects.{all_done}
use Rattle.cx_cmean.specs.Expressions.{eval}
use Rattle.cx_cmean.specs.Numbers.{is_zero}
use Rattle.cx_cmean.specs.Statements.{State, Ran, normal, looped, turned, in_world, with_locals, tested, tested_if, effects, exec_by}
use Rattle.cx_ctree.specs.Exprs.{ExprTree, EffectTree}
use Rattle.cx_ctree.specs.Stmts.{StmtTree, stmt, while, do_while, for, no_stmt}
use Rattle.cx_ctree.specs.Types.{TypeTree}
use Rattle.cx_goto.specs.Machine.{Outcome}
use Rattle.cx_goto.specs.declared.code.End.TheVariants.{Jump}
use Rattle.cx_lcode.specs.Items.{Item, start}
use Rattle.cx_lcode.specs.Needs.{needs, condition_need, effects_need, stmt_need}
use Rattle.cx_lcode.specs.Places.{last, condition_last, effects_last, stmt_last}
use Rattle.cx_lcode.specs.Statements.{Setting, effects_code, test_code, condition_code, stmt_code}
use Rattle.cx_lright.proofs.Afters.{in_setting, after_effects, after_condition, stmt_rest}
use Rattle.cx_lright.proofs.Effects.{effects_do}
use Rattle.cx_lright.proofs.Grows.{grows, condition_grows, effects_grow, stmt_grows}
use Rattle.cx_lright.proofs.Locals.{Matches}
use Rattle.cx_lright.proofs.Machine.{Coded, Keeps, HasAt, Ends, ends_as, Goes, goes_either, jump_ends}
use Rattle.cx_lright.proofs.Rests.{rest_of}
use Rattle.cx_lright.proofs.Values.{does_of}
use Rattle.cx_lright.proofs.Ways.{finish, finish_valued, finish_looped, Fits, Normally, DoesStmt, fits_after, ahead_goes, turned_goes}
use Rattle.cx_lright.specs.Fine.{Fine, ConditionFine, EffectsFine, StmtFine}
use Rattle.cx_lright.specs.Right.{GivesNumbers}
use Rattle.cx_world.specs.World.{Locals}

-- a loop from its head on, with its place
pub data Loop : Type 0 where
  whiles : Span → ExprTree → StmtTree → Loop
  repeats : Span → StmtTree → ExprTree → Loop
  fors : Span → Option ExprTree → List EffectTree → StmtTree → Loop

abbrev pub loop_stmt : Loop → StmtTree
loop_stmt (whiles s d x) = stmt s (while d x)
loop_stmt (repeats s x d) = stmt s (do_while x d)
loop_stmt (fors s o steps x) = stmt s (for no_stmt o steps x)

abbrev pub loop_body : Loop → StmtTree
loop_body (whiles s d x) = x
loop_body (repeats s x d) = x
loop_body (fors s o steps x) = x

abbrev pub loop_last : (h : ℕ) → Loop → ℕ
loop_last h (whiles s d x) = stmt_last x ((last d).test h + 1) + 1
loop_last h (repeats s x d) = (last d).test (stmt_last x h + 1) + 1
loop_last h (fors s o steps x) = effects_last steps (stmt_last x (condition_last o h + 1) + 1) + 1

-- the code of a loop from its head on
abbrev pub loop_code : Setting → (q : Span) → (h : ℕ) → Loop → List Item → List Item
loop_code z q h (whiles s d x) rest =
    let j = (last d).test h + 1 in let e = stmt_last x j + 1 in test_code z q d h j e (stmt_code z j e h x (start (Jump h) q z.served ∷ rest))
loop_code z q h (repeats s x d) rest =
    let k = stmt_last x h + 1 in let e = (last d).test k + 1 in stmt_code z h e k x (start (Jump k) q z.served ∷ test_code z q d k h e rest)
loop_code z q h (fors s o steps x) rest =
    let j = condition_last o h + 1 in let k = stmt_last x j + 1 in let e = effects_last steps k + 1 in
    condition_code z q o h j e (stmt_code z j e k x (start (Jump k) q z.served ∷ effects_code z q steps k (start (Jump h) q z.served ∷ rest)))

abbrev pub LoopFine : (c : Coded) (L m : ℕ) → Loop → Type 0
LoopFine c L m (whiles s d x) = Fine L d × ((needs c.program.unit d).test ≤ m) × StmtFine c.program.unit L true true x × (stmt_need c.program.unit x ≤ m)
LoopFine c L m (repeats s x d) = Fine L d × ((needs c.program.unit d).test ≤ m) × StmtFine c.program.unit L true true x × (stmt_need c.program.unit x ≤ m)
LoopFine c L m (fors s o steps x) =
    ConditionFine L o × (condition_need c.program.unit o ≤ m) × StmtFine c.program.unit L true true x × (stmt_need c.program.unit x ≤ m) × EffectsFine c.program.unit L steps × (effects_need c.program.unit steps ≤ m)

-- a loop that has fewer turns, from its head on
abbrev pub DoesLoops : (c : Coded) (tokens : List Token) (r : TypeTree) (L m N : ℕ) (again : StmtTree → State → Ran) → Type 0
DoesLoops c tokens r L m N again =
    (l : Loop) (q : Span) (h : ℕ) (rest : List Item) (st : State) (ls : Locals) (kn kb kc : State → Outcome) → HasAt c h 0 (loop_code (in_setting c tokens r L) q h l rest) → Keeps c h L → LoopFine c L m l
    → Matches L st.locals ls → L ≤ length st.locals → L + m ≤ length ls → st.turns < N
    → ((st' : State) (ls' : Locals) → Fits L m N st' ls' → Ends c (loop_last h l) 0 ls' st'.turns st'.world (kn st'))
    → Ends c h 0 ls st.turns st.world (finish (again (loop_stmt l) st) kn kb kc)

-- ---- tests

-- from a test in the block b to one of two blocks
pub test_goes : (c : Coded) (tokens : List Token) (r : TypeTree) (L m N : ℕ) (q : Span) (d : ExprTree) → Fine L d → (needs c.program.unit d).test ≤ m
    → (b i j k : ℕ) (rest : List Item) (st : State) (ls : Locals) (kn kb kc : State → Outcome) (f : Bool → State → Ran) → HasAt c b i (test_code (in_setting c tokens r L) q d b j k rest) → Fits L m N st ls
    → ((b' : ℕ) (st' : State) (ls' : Locals) → b ≤ b' → b' ≤ (last d).test b → Fits L m N st' ls' → Goes c b' j ls' st'.turns st'.world (finish (f true st') kn kb kc))
    → ((b' : ℕ) (st' : State) (ls' : Locals) → b ≤ b' → b' ≤ (last d).test b → Fits L m N st' ls' → Goes c b' k ls' st'.turns st'.world (finish (f false st') kn kb kc))
    → Ends c b i ls st.turns st.world (finish (tested c.program d st f) kn kb kc)
test_goes c tokens r L m N q d fine need b i j k rest st ls kn kb kc f h fits to_j to_k =
    let room = fits.room in
    ends_as c b i st.turns ls st.world _ _ (sym (finish_valued (eval c.program st.locals d st.world) st.turns _ kn kb kc))
    ((does_of c L st.locals q d fine).test b i L j k L st.turns ls st.world rest _ (omega arith) (omega (arith, room, need)) fits.low h
    (λ b' v w' ls' l' u' k'. let fits' = fits_after L m N st ls ls' w' fits k' in
    goes_either c b' j k st.turns ls' w' (λ r. finish r kn kb kc) (f true (in_world st w')) (f false (in_world st w')) (to_j b' (in_world st w') ls' l' u' fits') (to_k b' (in_world st w') ls' l' u' fits') (is_zero v)))

-- the same of a test that may be left out
condition_goes : (c : Coded) (tokens : List Token) (r : TypeTree) (L m N : ℕ) (q : Span) (o : Option ExprTree) → ConditionFine L o → condition_need c.program.unit o ≤ m
    → (b i j k : ℕ) (rest : List Item) (st : State) (ls : Locals) (kn kb kc : State → Outcome) (f : Bool → State → Ran) → HasAt c b i (condition_code (in_setting c tokens r L) q o b j k rest) → Fits L m N st ls
    → ((b' : ℕ) (st' : State) (ls' : Locals) → b ≤ b' → b' ≤ condition_last o b → Fits L m N st' ls' → Goes c b' j ls' st'.turns st'.world (finish (f true st') kn kb kc))
    → ((b' : ℕ) (st' : State) (ls' : Locals) → b ≤ b' → b' ≤ condition_last o b → Fits L m N st' ls' → Goes c b' k ls' st'.turns st'.world (finish (f false st') kn kb kc))
    → Ends c b i ls st.turns st.world (finish (tested_if c.program o st f) kn kb kc)
condition_goes c tokens r L m N q None fine need b i j k rest st ls kn kb kc f h fits to_j to_k = jump_ends c b i j st.turns q ls st.world _ h.0 (to_j b st ls (omega arith) (omega arith) fits)
condition_goes c tokens r L m N q (Some d) fine need b i j k rest st ls kn kb kc f h fits to_j to_k = test_goes c tokens r L m N q d fine need b i j k rest st ls kn kb kc f h fits to_j to_k

-- ---- effects in order

pub effects_go : (c : Coded) (tokens : List Token) (r : TypeTree) (L m N : ℕ) (q : Span) (es : List EffectTree) → EffectsFine c.program.unit L es → effects_need c.program.unit es ≤ m → GivesNumbers c.program
    → (b i : ℕ) (rest : List Item) (st : State) (ls : Locals) (kn kb kc : State → Outcome) (f : State → Ran) → HasAt c b i (effects_code (in_setting c tokens r L) q es b rest) → Fits L m N st ls
    → Normally c L m N (effects_last es b) rest (λ st. finish (f st) kn kb kc) → Ends c b i ls st.turns st.world (finish (effects c.program es st f) kn kb kc)
effects_go c tokens r L m N q es fine need g b i rest st ls kn kb kc f h fits next =
    let room = fits.room in let wide = fits.wide in
    ends_as c b i st.turns ls st.world _ _ (sym (finish_valued (all_done c.program st.locals es st.world) st.turns _ kn kb kc))
    (effects_do c tokens r L st.locals q es fine g b i st.turns ls st.world rest _ wide (omega (arith, room, need)) fits.low h
    (λ i' ys w' ls' h' m' ly ll. next i' (with_locals st ys w') ls' h' (record { low = m'; wide = omega (arith, wide, ly); room = omega (arith, room, ll); few = fits.few })))

-- ---- loops

-- a loop from its head on
pub loop_by : (c : Coded) (tokens : List Token) (r : TypeTree) (L m N : ℕ) (again : StmtTree → State → Ran) → DoesLoops c tokens r L m N again → GivesNumbers c.program → (l : Loop) → DoesStmt c tokens r L m N again (loop_body l)
    → (q : Span) (h : ℕ) (rest : List Item) (st : State) (ls : Locals) (kn kb kc : State → Outcome) → HasAt c h 0 (loop_code (in_setting c tokens r L) q h l rest) → Keeps c h L → LoopFine c L m l
    → Fits L m N st ls → ((st' : State) (ls' : Locals) → Fits L m N st' ls' → Ends c (loop_last h l) 0 ls' st'.turns st'.world (kn st'))
    → Ends c h 0 ls st.turns st.world (finish (exec_by c.program r again (loop_stmt l) st) kn kb kc)
loop_by c tokens r L m N again loops g (whiles s d x) body q h rest st ls kn kb kc code_at kh fine fits norm =
    let z = in_setting c tokens r L in let j = (last d).test h + 1 in let e = stmt_last x j + 1 in let more = start (Jump h) q L ∷ rest in
    let t = (rest_of c c.program.unit q d).test h 0 L j e L (stmt_code z j e h x more) code_at in
    let u = stmt_rest c tokens r L true true x fine.2 j 0 e h more t.1 in
    let up = stmt_grows x j in let up2 = (grows d).test h in
    test_goes c tokens r L m N q d fine.0 fine.1 h 0 j e (stmt_code z j e h x more) st ls kn kb kc (λ z st. if z then looped (exec_by c.program r again x st) (λ st. turned st (again (stmt s (while d x)))) else normal st) code_at fits
    (λ b' st1 ls1 l1 u1 fits1. ahead_goes c L m N b' j st1 ls1 _ t.0 (omega (arith, u1)) fits1
    (λ ls2 fits2. ends_as c j 0 st1.turns ls2 st1.world _ _ (sym (finish_looped (exec_by c.program r again x st1) _ kn kb kc))
    (body j 0 e h j (stmt_last x j) true true more st1 ls2 _ kn _ (omega arith) (omega arith) t.1 fine.2 fine.3 fits2
    (λ y b st' ls' lo hi fits'. ahead_goes c L m N b e st' ls' (kn st') u.1.1 (omega (arith, hi)) fits' (λ ls3 fits3. norm st' ls3 fits3))
    (λ y b st' ls' lo hi fits'. again_goes b st' ls' (omega (arith, up2, lo)) fits')
    (λ i' st' ls' h' fits'. jump_ends c (stmt_last x j) i' h st'.turns q ls' st'.world _ h'.0 (again_goes (stmt_last x j) st' ls' (omega (arith, up, up2)) fits')))))
    (λ b' st1 ls1 l1 u1 fits1. ahead_goes c L m N b' e st1 ls1 (kn st1) u.1.1 (omega (arith, up, u1)) fits1 (λ ls3 fits3. norm st1 ls3 fits3))
  where
    again_goes : (b : ℕ) (st' : State) (ls' : Locals) → h ≤ b → Fits L m N st' ls' → Goes c b h ls' st'.turns st'.world (finish (turned st' (again (stmt s (while d x)))) kn kb kc)
    again_goes b st' ls' le fits' =
        turned_goes c L m N b h st' ls' (again (stmt s (while d x))) kn kb kc kh le fits'
        (λ t ls2 lt m2 room2. loops (whiles s d x) q h rest (record st' { turns = t }) ls2 kn kb kc code_at kh fine m2 fits'.wide room2 lt norm)
loop_by c tokens r L m N again loops g (repeats s x d) body q h rest st ls kn kb kc code_at kh fine fits norm =
    let z = in_setting c tokens r L in let k = stmt_last x h + 1 in let e = (last d).test k + 1 in let more = start (Jump k) q L ∷ test_code z q d k h e rest in
    let u = stmt_rest c tokens r L true true x fine.2 h 0 e k more code_at in
    let t = (rest_of c c.program.unit q d).test k 0 L h e L rest u.1.2 in
    let up = stmt_grows x h in let up2 = (grows d).test k in
    ends_as c h 0 st.turns ls st.world _ _ (sym (finish_looped (exec_by c.program r again x st) _ kn kb kc))
    (body h 0 e k h (stmt_last x h) true true more st ls _ kn _ (omega arith) (omega arith) code_at fine.2 fine.3 fits
    (λ y b st' ls' lo hi fits'. ahead_goes c L m N b e st' ls' (kn st') t.0 (omega (arith, up2, hi)) fits' (λ ls3 fits3. norm st' ls3 fits3))
    (λ y b st' ls' lo hi fits'. ahead_goes c L m N b k st' ls' _ u.1.1 (omega (arith, hi)) fits' (λ ls3 fits3. from_test st' ls3 u.1.2 t.0 fits3))
    (λ i' st' ls' h' fits'. jump_ends c (stmt_last x h) i' k st'.turns q ls' st'.world _ h'.0
    (ahead_goes c L m N (stmt_last x h) k st' ls' _ u.1.1 (omega arith) fits' (λ ls3 fits3. from_test st' ls3 u.1.2 t.0 fits3))))
  where
    from_test : (st' : State) (ls' : Locals) → (let k = stmt_last x h + 1 in let e = (last d).test k + 1 in HasAt c k 0 (test_code (in_setting c tokens r L) q d k h e rest)) → Keeps c ((last d).test (stmt_last x h + 1) + 1) L → Fits L m N st' ls'
        → Ends c (stmt_last x h + 1) 0 ls' st'.turns st'.world (finish (tested c.program d st' (λ z st. if z then turned st (again (stmt s (do_while x d))) else normal st)) kn kb kc)
    from_test st' ls' test_at ke fits' =
        let k = stmt_last x h + 1 in let e = (last d).test k + 1 in let up = stmt_grows x h in
        test_goes c tokens r L m N q d fine.0 fine.1 k 0 h e rest st' ls' kn kb kc (λ z st. if z then turned st (again (stmt s (do_while x d))) else normal st) test_at fits'
        (λ b' st1 ls1 l1 u1 fits1. turned_goes c L m N b' h st1 ls1 (again (stmt s (do_while x d))) kn kb kc kh (omega (arith, up, l1)) fits1
        (λ t ls2 lt m2 room2. loops (repeats s x d) q h rest (record st1 { turns = t }) ls2 kn kb kc code_at kh fine m2 fits1.wide room2 lt norm))
        (λ b' st1 ls1 l1 u1 fits1. ahead_goes c L m N b' e st1 ls1 (kn st1) ke (omega (arith, u1)) fits1 (λ ls3 fits3. norm st1 ls3 fits3))
loop_by c tokens r L m N again loops g (fors s o steps x) body q h rest st ls kn kb kc code_at kh fine fits norm =
    let z = in_setting c tokens r L in let j = condition_last o h + 1 in let k = stmt_last x j + 1 in let e = effects_last steps k + 1 in
    let last_one = start (Jump h) q L ∷ rest in let more = start (Jump k) q L ∷ effects_code z q steps k last_one in
    let t = after_condition c tokens r L q o h 0 j e (stmt_code z j e k x more) code_at in
    let u = stmt_rest c tokens r L true true x fine.2 j 0 e k more t.1 in
    let v = after_effects c tokens r L q steps fine.4 k 0 last_one u.1.2 in
    let up = stmt_grows x j in let up2 = condition_grows o h in let up3 = effects_grow steps k in
    condition_goes c tokens r L m N q o fine.0 fine.1 h 0 j e (stmt_code z j e k x more) st ls kn kb kc (λ z st. if z then looped (exec_by c.program r again x st) (λ st. effects c.program steps st (λ st. turned st (again (stmt s (for no_stmt o steps x))))) else normal st) code_at fits
    (λ b' st1 ls1 l1 u1 fits1. ahead_goes c L m N b' j st1 ls1 _ t.0 (omega (arith, u1)) fits1
    (λ ls2 fits2. ends_as c j 0 st1.turns ls2 st1.world _ _ (sym (finish_looped (exec_by c.program r again x st1) _ kn kb kc))
    (body j 0 e k j (stmt_last x j) true true more st1 ls2 _ kn _ (omega arith) (omega arith) t.1 fine.2 fine.3 fits2
    (λ y b st' ls' lo hi fits'. ahead_goes c L m N b e st' ls' (kn st') v.1.1 (omega (arith, hi, up3)) fits' (λ ls3 fits3. norm st' ls3 fits3))
    (λ y b st' ls' lo hi fits'. ahead_goes c L m N b k st' ls' _ u.1.1 (omega (arith, hi)) fits' (λ ls3 fits3. from_steps st' ls3 u.1.2 fits3))
    (λ i' st' ls' h' fits'. jump_ends c (stmt_last x j) i' k st'.turns q ls' st'.world _ h'.0
    (ahead_goes c L m N (stmt_last x j) k st' ls' _ u.1.1 (omega arith) fits' (λ ls3 fits3. from_steps st' ls3 u.1.2 fits3))))))
    (λ b' st1 ls1 l1 u1 fits1. ahead_goes c L m N b' e st1 ls1 (kn st1) v.1.1 (omega (arith, up, up3, u1)) fits1 (λ ls3 fits3. norm st1 ls3 fits3))
  where
    from_steps : (st' : State) (ls' : Locals) → (let k = stmt_last x (condition_last o h + 1) + 1 in HasAt c k 0 (effects_code (in_setting c tokens r L) q steps k (start (Jump h) q L ∷ rest))) → Fits L m N st' ls'
        → Ends c (stmt_last x (condition_last o h + 1) + 1) 0 ls' st'.turns st'.world (finish (effects c.program steps st' (λ st. turned st (again (stmt s (for no_stmt o steps x))))) kn kb kc)
    from_steps st' ls' at fits' =
        let j = condition_last o h + 1 in let k = stmt_last x j + 1 in let up = stmt_grows x j in let up2 = condition_grows o h in let up3 = effects_grow steps k in
        effects_go c tokens r L m N q steps fine.4 fine.5 g k 0 (start (Jump h) q L ∷ rest) st' ls' kn kb kc (λ st. turned st (again (stmt s (for no_stmt o steps x)))) at fits'
        (λ i2 st2 ls2 h2 fits2. jump_ends c (effects_last steps k) i2 h st2.turns q ls2 st2.world _ h2.0
        (turned_goes c L m N (effects_last steps k) h st2 ls2 (again (stmt s (for no_stmt o steps x))) kn kb kc kh (omega (arith, up, up2, up3)) fits2
        (λ t ls3 lt m3 room3. loops (fors s o steps x) q h rest (record st2 { turns = t }) ls3 kn kb kc code_at kh fine m3 fits2.wide room3 lt norm)))
