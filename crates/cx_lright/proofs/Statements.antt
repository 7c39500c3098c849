-- The code of a statement does what the statement does.
use Rattle.std.proofs.Common.{ℕ, zero, suc, ℤ, ◌≡◌, ◌+◌, ◌<◌, ◌≤◌, Bool, true, false, List, ◌∷◌, Option, Some, None, refl, sym, ap, subst, arith}
use Rattle.std.specs.Prelude.{slice_get, slice_set, if◌then◌else◌}
use Rattle.std.proofs.lemmas.List.{length-set}
use Rattle.cx_base.specs.declared.span.Span.{Span}
use Rattle.cx_base.specs.declared.token.Token.{Token}
use Rattle.cx_cconst.specs.Constants.{number_type}
use Rattle.cx_cmean.specs.Effects.{right, done}
use Rattle.cx_cmean.specs.Expressions.{eval}
use Rattle.cx_cmean.specs.Numbers.{number_of, as_type}
use Rattle.cx_cmean.specs.Statements.{State, Ran, normal, stops, in_world, with_locals, exec_by, exec_kind, execs_by, groups_by, run}
use Rattle.cx_ctree.specs.Conversions.{promoted}
use Rattle.cx_ctree.specs.Exprs.{ExprTree, span_of, type_of}
use Rattle.cx_ctree.specs.Stmts.{StmtTree, stmt, StmtKindTree, block, empty, effect, declare, if_alone, if_else, while, do_while, for, switch, break, continue, return, StmtTrees, no_stmt, also_stmt, GroupTrees, no_group, also_group}
use Rattle.cx_ctree.specs.Types.{TypeTree}
use Rattle.cx_goto.specs.Machine.{Outcome, follow, put_in}
use Rattle.cx_goto.specs.Trees.{copy}
use Rattle.cx_goto.specs.declared.code.End.TheVariants.{Jump, Return}
use Rattle.cx_lcode.specs.Items.{Item, start, does, converts, first_token}
use Rattle.cx_lcode.specs.Needs.{stmt_need, kind_stmt_need, stmts_need, groups_need}
use Rattle.cx_lcode.specs.Places.{last, right_last, all_labels_last, effects_last, condition_last, stmt_last, kind_stmt_last, stmts_last, groups_last}
use Rattle.cx_lcode.specs.Statements.{all_labels_code, default_block, stmt_code, kind_code, stmts_code, groups_code, test_code, condition_code, effects_code}
use Rattle.cx_lcode.specs.Values.{code_of}
use Rattle.cx_lright.proofs.Afters as afters
use Rattle.cx_lright.proofs.Afters.{in_setting, after_all_labels, stmt_rest, stmts_rest}
use Rattle.cx_lright.proofs.Effects.{right_does, effect_does}
use Rattle.cx_lright.proofs.Grows as grows_of
use Rattle.cx_lright.proofs.Grows.{grows, all_labels_grow, stmt_grows, stmts_grow, groups_grow}
use Rattle.cx_lright.proofs.Lines as lines
use Rattle.cx_lright.proofs.Locals as locals
use Rattle.cx_lright.proofs.Locals.{matches_kept, matches_set}
use Rattle.cx_lright.proofs.Loops as loops_of
use Rattle.cx_lright.proofs.Loops.{Loop, whiles, repeats, fors, DoesLoops, test_goes, loop_by}
use Rattle.cx_lright.proofs.Machine as machine
use Rattle.cx_lright.proofs.Machine.{Coded, Keeps, HasAt, Ends, ends_as, ends_on, still_ends, Goes, jump_ends, return_ends}
use Rattle.cx_lright.proofs.Needing.{ones}
use Rattle.cx_lright.proofs.Rests.{rest_of, after_number}
use Rattle.cx_lright.proofs.Switches.{GroupsGo, switch_goes}
use Rattle.cx_lright.proofs.Values.{does_of}
use Rattle.cx_lright.proofs.Ways.{finish, finish_valued, finish_after, finish_unbroken, Fits, Escapes, Normally, DoesStmt, fits_after, ahead_goes}
use Rattle.cx_lright.specs.Fine.{StmtFine, KindStmtFine, StmtsFine, GroupsFine}
use Rattle.cx_lright.specs.Right.{GivesNumbers}
use Rattle.cx_world.specs.Calls.{leave}
use Rattle.cx_world.specs.World.{World, gives, go_on, Locals, set_number, turns_spent}

-- ---- parts of statements

-- to a branch of an `if`, which jumps to the end
branch_goes : (c : Coded) (tokens : List Token) (r : TypeTree) (L m N : ℕ) (again : StmtTree → State → Ran) (s : StmtTree) → DoesStmt c tokens r L m N again s
    → (q : Span) (a b e out next lo hi : ℕ) (il iw : Bool) (rest : List Item) (st : State) (ls : Locals) (kn kb kc : State → Outcome) → Keeps c b L → a < b → lo ≤ b → stmt_last s b ≤ hi
    → HasAt c b 0 (stmt_code (in_setting c tokens r L) b out next s (start (Jump e) q L ∷ rest)) → StmtFine c.program.unit L il iw s → stmt_need c.program.unit s ≤ m → Fits L m N st ls
    → (iw ≡ true → Escapes c L m N lo hi out kb) → (il ≡ true → Escapes c L m N lo hi next kc) → Keeps c e L → stmt_last s b < e
    → ((st' : State) (ls' : Locals) → Fits L m N st' ls' → Ends c e 0 ls' st'.turns st'.world (kn st')) → Goes c a b ls st.turns st.world (finish (exec_by c.program r again s st) kn kb kc)
branch_goes c tokens r L m N again s body q a b e out next lo hi il iw rest st ls kn kb kc kb_ lt l u h fine need fits eb ec ke lte norm =
    ahead_goes c L m N a b st ls _ kb_ lt fits
    (λ ls1 fits1. body b 0 out next lo hi il iw (start (Jump e) q L ∷ rest) st ls1 kn kb kc l u h fine need fits1 eb ec
    (λ i' st' ls' h' fits'. jump_ends c (stmt_last s b) i' e st'.turns q ls' st'.world _ h'.0 (ahead_goes c L m N (stmt_last s b) e st' ls' _ ke lte fits' (λ ls2 fits2. norm st' ls2 fits2))))

-- a return of a value that stands in the first local, or of none
leaves : (c : Coded) (b i n L : ℕ) (s : Span) (ls : Locals) (w : World) (v : ℤ) (go : Unit {0} → World → Outcome) → slice_get ls L ≡ Some (Some v) → machine.IsEnd c b i (Return (Some L)) s → Ends c b i ls n w (follow (leave c.program.oracle (Some v) w) n go)
leaves c b i n L s ls w v go hv h = return_ends c b i n s ls w (Some L) (Some v) go h (λ u. ap (λ o. go_on (set_number s o u) (λ v w. gives (Some v) w)) hv)

-- ---- all statements

-- the last of the groups' blocks is where the switch ends
groups_end : (c : Coded) (tokens : List Token) (r : TypeTree) (L : ℕ) (il iw : Bool) (q : Span) (gs : GroupTrees) → GroupsFine c.program.unit L il iw gs → (b out next : ℕ) (rest : List Item)
    → HasAt c (b + 1) 0 (groups_code (in_setting c tokens r L) q (b + 1) out next gs rest) → Keeps c (b + 1) L → Keeps c (groups_last gs b + 1) L × HasAt c (groups_last gs b + 1) 0 rest
groups_end c tokens r L il iw q no_group fine b out next rest h k = (k, h)
groups_end c tokens r L il iw q (also_group labels body gs) fine b out next rest h k =
    let z = in_setting c tokens r L in let e = stmts_last body (b + 1) + 1 in
    let h1 = stmts_rest c tokens r L il iw body fine.0 (b + 1) 0 out next (start (Jump e) q L ∷ groups_code z q e out next gs rest) h in
    groups_end c tokens r L il iw q gs fine.1 (stmts_last body (b + 1)) out next rest h1.1.2 h1.1.1

-- what the code of statements does
abbrev DoesStmts : (c : Coded) (tokens : List Token) (r : TypeTree) (L m N : ℕ) (again : StmtTree → State → Ran) (ss : StmtTrees) → Type 0
DoesStmts c tokens r L m N again ss =
    (b i out next lo hi : ℕ) (il iw : Bool) (rest : List Item) (st : State) (ls : Locals) (kn kb kc : State → Outcome) → lo ≤ b → stmts_last ss b ≤ hi → HasAt c b i (stmts_code (in_setting c tokens r L) b out next ss rest)
    → StmtsFine c.program.unit L il iw ss → stmts_need c.program.unit ss ≤ m → Fits L m N st ls → (iw ≡ true → Escapes c L m N lo hi out kb) → (il ≡ true → Escapes c L m N lo hi next kc)
    → Normally c L m N (stmts_last ss b) rest kn → Ends c b i ls st.turns st.world (finish (execs_by c.program r again ss st) kn kb kc)

-- what the code of groups does, where the first begins in the block after b and the switch ends in the block e
abbrev DoesGroups : (c : Coded) (tokens : List Token) (r : TypeTree) (L m N : ℕ) (again : StmtTree → State → Ran) (q : Span) (gs : GroupTrees) → Type 0
DoesGroups c tokens r L m N again q gs =
    (b e next : ℕ) (il : Bool) (rest : List Item) (st : State) (ls : Locals) (kn kc : State → Outcome) → groups_last gs b + 1 ≡ e → HasAt c (b + 1) 0 (groups_code (in_setting c tokens r L) q (b + 1) e next gs rest) → Keeps c (b + 1) L
    → GroupsFine c.program.unit L il true gs → groups_need c.program.unit gs ≤ m → Fits L m N st ls → ((b' : ℕ) (st' : State) (ls' : Locals) → b' < e → Fits L m N st' ls' → Goes c b' e ls' st'.turns st'.world (kn st'))
    → (il ≡ true → Escapes c L m N (b + 1) e next kc) → ((st' : State) (ls' : Locals) → Fits L m N st' ls' → Ends c e 0 ls' st'.turns st'.world (kn st')) → Ends c (b + 1) 0 ls st.turns st.world (finish (groups_by c.program r again gs st) kn kn kc)

group_ends : (c : Coded) (tokens : List Token) (r : TypeTree) (L m N : ℕ) (again : StmtTree → State → Ran) (q : Span) (labels : List (Option ExprTree)) (body : StmtTrees) (gs : GroupTrees) → DoesStmts c tokens r L m N again body → DoesGroups c tokens r L m N again q gs
    → DoesGroups c tokens r L m N again q (also_group labels body gs)
group_ends c tokens r L m N again q labels body gs first others_do b e next il rest st ls kn kc eq h k fine need fits leave_it ec norm =
    let z = in_setting c tokens r L in let f = stmts_last body (b + 1) + 1 in let more = start (Jump f) q L ∷ groups_code z q f e next gs rest in
    let up = stmts_grow body (b + 1) in let up2 = groups_grow gs (stmts_last body (b + 1)) in
    ends_as c (b + 1) 0 st.turns ls st.world _ _ (sym (finish_after (execs_by c.program r again body st) _ kn kn kc))
    (first (b + 1) 0 e next (b + 1) (stmts_last body (b + 1)) il true more st ls _ kn kc (omega arith) (omega arith) h fine.0 (omega (arith, need)) fits
    (λ y b' st' ls' lo hi fits'. leave_it b' st' ls' (omega (arith, hi, up2, eq)) fits')
    (λ y b' st' ls' lo hi fits'. ec y b' st' ls' lo (omega (arith, hi, up2, eq)) fits')
    (λ i' st' ls' h' fits'. jump_ends c (stmts_last body (b + 1)) i' f st'.turns q ls' st'.world _ h'.0
    (ahead_goes c L m N (stmts_last body (b + 1)) f st' ls' _ h'.1 (omega arith) fits'
    (λ ls2 fits2. others_do (stmts_last body (b + 1)) e next il rest st' ls2 kn kc eq h'.2 h'.1 fine.1 (omega (arith, need)) fits2 leave_it
    (λ y b2 st2 ls2 lo hi fits3. ec y b2 st2 ls2 (omega (arith, lo, up)) hi fits3) norm))))

mutual
  does_stmt : (c : Coded) (tokens : List Token) (r : TypeTree) (L m N : ℕ) (again : StmtTree → State → Ran) → DoesLoops c tokens r L m N again → GivesNumbers c.program → (s : StmtTree) → DoesStmt c tokens r L m N again s
  does_stmt c tokens r L m N again loops g (stmt s k) b i out next lo hi il iw rest st ls kn kb kc l u h fine need fits eb ec norm =
      does_kind c tokens r L m N again loops g (first_token tokens s) s k b i out next lo hi il iw rest st ls kn kb kc l u h fine need fits eb ec norm

  does_kind : (c : Coded) (tokens : List Token) (r : TypeTree) (L m N : ℕ) (again : StmtTree → State → Ran) → DoesLoops c tokens r L m N again → GivesNumbers c.program → (q s : Span) (k : StmtKindTree)
      → (b i out next lo hi : ℕ) (il iw : Bool) (rest : List Item) (st : State) (ls : Locals) (kn kb kc : State → Outcome) → lo ≤ b → kind_stmt_last k b ≤ hi → HasAt c b i (kind_code (in_setting c tokens r L) q s b out next k rest)
      → KindStmtFine c.program.unit L il iw k → kind_stmt_need c.program.unit k ≤ m → Fits L m N st ls → (iw ≡ true → Escapes c L m N lo hi out kb) → (il ≡ true → Escapes c L m N lo hi next kc)
      → Normally c L m N (kind_stmt_last k b) rest kn → Ends c b i ls st.turns st.world (finish (exec_kind c.program r again s k st) kn kb kc)
  does_kind c tokens r L m N again loops g q s (block ss) b i out next lo hi il iw rest st ls kn kb kc l u h fine need fits eb ec norm =
      does_stmts c tokens r L m N again loops g ss b i out next lo hi il iw rest st ls kn kb kc l u h fine need fits eb ec norm
  does_kind c tokens r L m N again loops g q s empty b i out next lo hi il iw rest st ls kn kb kc l u h fine need fits eb ec norm = norm i st ls h fits
  does_kind c tokens r L m N again loops g q s (effect e) b i out next lo hi il iw rest st ls kn kb kc l u h fine need fits eb ec norm =
      let room = fits.room in let wide = fits.wide in
      ends_as c b i st.turns ls st.world _ _ (sym (finish_valued (done c.program st.locals e st.world) st.turns _ kn kb kc))
      (effect_does c L st.locals q e fine g b i st.turns ls st.world rest _ wide (omega (arith, room, need)) fits.low h
      (λ i' ys w' ls' h' m' ly ll. norm i' (with_locals st ys w') ls' h' (record { low = m'; wide = omega (arith, wide, ly); room = omega (arith, room, ll); few = fits.few })))
  does_kind c tokens r L m N again loops g q s (declare x t None) b i out next lo hi il iw rest st ls kn kb kc l u h fine need fits eb ec norm =
      let room = fits.room in let wide = fits.wide in let below = fine.0 in let ly = length-set st.locals x None in let ll = length-set ls x None in
      still_ends c b i st.turns ls (slice_set ls x None) st.world _ _ h.0 refl
      (norm (i + 1) (with_locals st (slice_set st.locals x None) st.world) (slice_set ls x None) h.1
      (record { low = matches_set L x st.locals ls None (omega (arith, below, wide)) (omega (arith, below, room)) fits.low; wide = omega (arith, wide, ly); room = omega (arith, room, ll); few = fits.few }))
  does_kind c tokens r L m N again loops g q s (declare x t (Some v)) b i out next lo hi il iw rest st ls kn kb kc l u h fine need fits eb ec norm =
      let room = fits.room in let wide = fits.wide in let below = fine.0 in
      ends_as c b i st.turns ls st.world _ _ (sym (finish_valued (right c.program st.locals t v st.world) st.turns _ kn kb kc))
      (right_does c L st.locals s t v fine.1 g b i st.turns ls st.world (does s (copy x L) ∷ rest) _ (omega (arith, room, need)) fits.low h
      (λ i1 a w1 ls1 h1 k1 ha. let long1 = k1.long in let ly = length-set st.locals x (Some a) in let ll = length-set ls1 x (Some a) in
      still_ends c (right_last v b) i1 st.turns ls1 (slice_set ls1 x (Some a)) w1 _ _ h1.0 (ap (λ o. put_in x ls1 (set_number s o w1)) ha)
      (norm (i1 + 1) (with_locals st (slice_set st.locals x (Some a)) w1) (slice_set ls1 x (Some a)) h1.1
      (record { low = matches_set L x st.locals ls1 (Some a) (omega (arith, below, wide)) (omega (arith, below, room, long1)) (matches_kept L L st.locals ls ls1 (omega arith) fits.low k1); wide = omega (arith, wide, ly); room = omega (arith, room, long1, ll); few = fits.few }))))
  does_kind c tokens r L m N again loops g q s (if_alone d x) b i out next lo hi il iw rest st ls kn kb kc l u h fine need fits eb ec norm =
      let z = in_setting c tokens r L in let j = (last d).test b + 1 in let e = stmt_last x j + 1 in let more = start (Jump e) q L ∷ rest in
      let t = (rest_of c c.program.unit q d).test b i L j e L (stmt_code z j out next x more) h in let v = stmt_rest c tokens r L il iw x fine.1 j 0 out next more t.1 in
      let up = (grows d).test b in let up2 = stmt_grows x j in
      test_goes c tokens r L m N q d fine.0 (omega (arith, need)) b i j e (stmt_code z j out next x more) st ls kn kb kc (λ z st. if z then exec_by c.program r again x st else normal st) h fits
      (λ b' st1 ls1 l1 u1 fits1.
      branch_goes c tokens r L m N again x (does_stmt c tokens r L m N again loops g x) q b' j e out next lo hi il iw rest st1 ls1 kn kb kc t.0 (omega (arith, u1)) (omega (arith, l, up)) (omega (arith, u)) t.1 fine.1 (omega (arith, need)) fits1 eb ec v.1.1 (omega arith)
      (λ st' ls' fits'. norm 0 st' ls' v.1.2 fits'))
      (λ b' st1 ls1 l1 u1 fits1. ahead_goes c L m N b' e st1 ls1 (kn st1) v.1.1 (omega (arith, u1, up2)) fits1 (λ ls2 fits2. norm 0 st1 ls2 v.1.2 fits2))
  does_kind c tokens r L m N again loops g q s (if_else d x y) b i out next lo hi il iw rest st ls kn kb kc l u h fine need fits eb ec norm =
      let z = in_setting c tokens r L in let j = (last d).test b + 1 in let k = stmt_last x j + 1 in let e = stmt_last y k + 1 in
      let end = start (Jump e) q L ∷ rest in let other = start (Jump e) q L ∷ stmt_code z k out next y end in
      let t = (rest_of c c.program.unit q d).test b i L j k L (stmt_code z j out next x other) h in let v = stmt_rest c tokens r L il iw x fine.1 j 0 out next other t.1 in
      let w = stmt_rest c tokens r L il iw y fine.2 k 0 out next end v.1.2 in let up = (grows d).test b in let up2 = stmt_grows x j in let up3 = stmt_grows y k in
      test_goes c tokens r L m N q d fine.0 (omega (arith, need)) b i j k (stmt_code z j out next x other) st ls kn kb kc (λ z st. if z then exec_by c.program r again x st else exec_by c.program r again y st) h fits
      (λ b' st1 ls1 l1 u1 fits1.
      branch_goes c tokens r L m N again x (does_stmt c tokens r L m N again loops g x) q b' j e out next lo hi il iw (stmt_code z k out next y end) st1 ls1 kn kb kc t.0 (omega (arith, u1)) (omega (arith, l, up)) (omega (arith, u, up3)) t.1 fine.1 (omega (arith, need)) fits1 eb ec w.1.1
      (omega (arith, up3)) (λ st' ls' fits'. norm 0 st' ls' w.1.2 fits'))
      (λ b' st1 ls1 l1 u1 fits1.
      branch_goes c tokens r L m N again y (does_stmt c tokens r L m N again loops g y) q b' k e out next lo hi il iw rest st1 ls1 kn kb kc v.1.1 (omega (arith, u1, up2)) (omega (arith, l, up, up2)) (omega (arith, u)) v.1.2 fine.2 (omega (arith, need)) fits1 eb ec w.1.1 (omega arith)
      (λ st' ls' fits'. norm 0 st' ls' w.1.2 fits'))
  does_kind c tokens r L m N again loops g q s (while d x) b i out next lo hi il iw rest st ls kn kb kc l u h fine need fits eb ec norm =
      let z = in_setting c tokens r L in let k = b + 1 in let j = (last d).test k + 1 in let e = stmt_last x j + 1 in let more = start (Jump k) q L ∷ rest in
      let t = (rest_of c c.program.unit q d).test k 0 L j e L (stmt_code z j e k x more) h.2 in let v = stmt_rest c tokens r L true true x fine.1 j 0 e k more t.1 in
      jump_ends c b i k st.turns q ls st.world _ h.0 (ahead_goes c L m N b k st ls _ h.1 (omega arith) fits
      (λ ls1 fits1. loop_by c tokens r L m N again loops g (whiles s d x) (does_stmt c tokens r L m N again loops g x) q k rest st ls1 kn kb kc h.2 h.1 (fine.0, omega (arith, need), fine.1, omega (arith, need)) fits1
      (λ st' ls' fits'. norm 0 st' ls' v.1.2 fits')))
  does_kind c tokens r L m N again loops g q s (do_while x d) b i out next lo hi il iw rest st ls kn kb kc l u h fine need fits eb ec norm =
      let z = in_setting c tokens r L in let k = b + 1 in let n = stmt_last x k + 1 in let e = (last d).test n + 1 in let more = start (Jump n) q L ∷ test_code z q d n k e rest in
      let v = stmt_rest c tokens r L true true x fine.0 k 0 e n more h.2 in let t = (rest_of c c.program.unit q d).test n 0 L k e L rest v.1.2 in
      jump_ends c b i k st.turns q ls st.world _ h.0 (ahead_goes c L m N b k st ls _ h.1 (omega arith) fits
      (λ ls1 fits1. loop_by c tokens r L m N again loops g (repeats s x d) (does_stmt c tokens r L m N again loops g x) q k rest st ls1 kn kb kc h.2 h.1 (fine.1, omega (arith, need), fine.0, omega (arith, need)) fits1
      (λ st' ls' fits'. norm 0 st' ls' t.1 fits')))
  does_kind c tokens r L m N again loops g q s (for init o steps x) b i out next lo hi il iw rest st ls kn kb kc l u h fine need fits eb ec norm =
      let z = in_setting c tokens r L in let k = stmts_last init b + 1 in let j = condition_last o k + 1 in let n = stmt_last x j + 1 in let e = effects_last steps n + 1 in
      let end = start (Jump k) q L ∷ rest in let stepping = start (Jump n) q L ∷ effects_code z q steps n end in let body = stmt_code z j e n x stepping in let head = start (Jump k) q L ∷ condition_code z q o k j e body in
      let up = grows_of.condition_grows o k in let up2 = stmt_grows x j in let up3 = grows_of.effects_grow steps n in
      ends_as c b i st.turns ls st.world _ _ (sym (finish_after (execs_by c.program r again init st) _ kn kb kc))
      (does_stmts c tokens r L m N again loops g init b i out next lo hi il iw head st ls _ kb kc l (omega (arith, u, up, up2, up3)) h fine.0 (omega (arith, need)) fits eb ec
      (λ i1 st1 ls1 h1 fits1. let t = afters.after_condition c tokens r L q o k 0 j e body h1.2 in let v = stmt_rest c tokens r L true true x fine.3 j 0 e n stepping t.1 in let w = afters.after_effects c tokens r L q steps fine.2 n 0 end v.1.2 in
      jump_ends c (stmts_last init b) i1 k st1.turns q ls1 st1.world _ h1.0 (ahead_goes c L m N (stmts_last init b) k st1 ls1 _ h1.1 (omega arith) fits1
      (λ ls2 fits2. loop_by c tokens r L m N again loops g (fors s o steps x) (does_stmt c tokens r L m N again loops g x) q k rest st1 ls2 kn kb kc h1.2 h1.1
      (fine.1, omega (arith, need), fine.3, omega (arith, need), fine.2, omega (arith, need)) fits2
      (λ st' ls' fits'. norm 0 st' ls' w.1.2 fits')))))
  does_kind c tokens r L m N again loops g q s (switch v gs) b i out next lo hi il iw rest st ls kn kb kc l u h fine need fits eb ec norm =
      let z = in_setting c tokens r L in let a = (last v).val b in let n = all_labels_last gs a in let e = groups_last gs n + 1 in let t = promoted (number_type (type_of v)) in
      let groups = groups_code z q (n + 1) e next gs rest in let chosen = start (Jump (default_block (n + 1) e gs)) q L ∷ groups in let labels = all_labels_code z (span_of v) (type_of v) (n + 1) gs a chosen in
      let h1 = after_number c (last v).val (code_of c.program.unit q v).val (span_of v) (number_of v) t (rest_of c c.program.unit q v).val b i L labels h in
      let h2 = after_all_labels c tokens r L (span_of v) (type_of v) (n + 1) gs a h1.0 chosen h1.1 in
      let end = groups_end c tokens r L il true q gs fine.1 n e next rest h2.1.2 h2.1.1 in
      let room = fits.room in let one = (ones c.program.unit v).val in let up = (grows v).val b in let up2 = all_labels_grow gs a in let up3 = groups_grow gs n in
      let leave_it : (b' : ℕ) (st' : State) (ls' : Locals) → b' < e → Fits L m N st' ls' → Goes c b' e ls' st'.turns st'.world (kn st') = λ b' st' ls' lt fits'. ahead_goes c L m N b' e st' ls' (kn st') end.0 lt fits' (λ ls3 fits3. norm 0 st' ls3 end.1 fits3) in
      ends_as c b i st.turns ls st.world _ _ (sym (finish_valued (eval c.program st.locals v st.world) st.turns _ kn kb kc))
      ((does_of c L st.locals q v fine.0).val b i L st.turns ls st.world (converts (span_of v) (number_of v) t L labels) _ (omega arith) (omega (arith, room, need)) fits.low h
      (λ i1 x w1 ls1 h1 k1 hx. let long1 = k1.long in
      lines.converts_ends c a i1 L st.turns (span_of v) (number_of v) t ls1 w1 x labels _ (omega (arith, room, long1, one, need)) hx h1
      (λ i2 ls2 h2' k2 hx2. let st1 = in_world st w1 in let fits2 = fits_after L m N st ls ls2 w1 fits (locals.kept_trans L L ls ls1 ls2 (omega arith) k1 k2) in
      switch_goes c tokens r L m N again q (span_of v) (type_of v) (n + 1) e gs a i2 groups st1 (as_type (number_of v) t x) ls2 kn kb kc (omega (arith, need)) (omega arith) h2' (record { fits = fits2; value = hx2 })
      (groups_go c tokens r L m N again loops g q gs n e next il rest st1 kn kb kc refl h2.1.2 h2.1.1 fine.1 (omega (arith, need)) leave_it (λ y b' st' ls' lo' hi' fits'. ec y b' st' ls' (omega (arith, l, up, up2, lo')) (omega (arith, u, hi')) fits') (λ st' ls' fits'. norm 0 st' ls' end.1 fits'))
      (λ ls' fits'. leave_it n st1 ls' (omega (arith, up3)) fits'))))
  does_kind c tokens r L m N again loops g q s break b i out next lo hi il iw rest st ls kn kb kc l u h fine need fits eb ec norm = jump_ends c b i out st.turns q ls st.world (kb st) h.0 (eb fine b st ls l (omega (arith, u)) fits)
  does_kind c tokens r L m N again loops g q s continue b i out next lo hi il iw rest st ls kn kb kc l u h fine need fits eb ec norm = jump_ends c b i next st.turns q ls st.world (kc st) h.0 (ec fine b st ls l (omega (arith, u)) fits)
  does_kind c tokens r L m N again loops g q s (return None) b i out next lo hi il iw rest st ls kn kb kc l u h fine need fits eb ec norm =
      ends_as c b i st.turns ls st.world _ _ (sym (finish_valued (leave c.program.oracle None st.world) st.turns _ kn kb kc))
      (return_ends c b i st.turns s ls st.world None None _ h.0 (λ u. refl))
  does_kind c tokens r L m N again loops g q s (return (Some v)) b i out next lo hi il iw rest st ls kn kb kc l u h fine need fits eb ec norm =
      let room = fits.room in
      ends_as c b i st.turns ls st.world _ _ (sym (finish_valued (go_on (right c.program st.locals r v st.world) (λ v w. leave c.program.oracle (Some v) w)) st.turns _ kn kb kc))
      (ends_on c b i st.turns ls st.world (right c.program st.locals r v st.world) (λ v w. leave c.program.oracle (Some v) w) _
      (right_does c L st.locals q r v fine g b i st.turns ls st.world (start (Return (Some L)) s L ∷ rest) _ (omega (arith, room, need)) fits.low h
      (λ i1 a w1 ls1 h1 k1 ha. leaves c (right_last v b) i1 st.turns L s ls1 w1 a _ ha h1.0)))

  does_stmts : (c : Coded) (tokens : List Token) (r : TypeTree) (L m N : ℕ) (again : StmtTree → State → Ran) → DoesLoops c tokens r L m N again → GivesNumbers c.program → (ss : StmtTrees) → DoesStmts c tokens r L m N again ss
  does_stmts c tokens r L m N again loops g no_stmt b i out next lo hi il iw rest st ls kn kb kc l u h fine need fits eb ec norm = norm i st ls h fits
  does_stmts c tokens r L m N again loops g (also_stmt s ss) b i out next lo hi il iw rest st ls kn kb kc l u h fine need fits eb ec norm =
      let up = stmt_grows s b in let up2 = stmts_grow ss (stmt_last s b) in
      ends_as c b i st.turns ls st.world _ _ (sym (finish_after (exec_by c.program r again s st) _ kn kb kc))
      (does_stmt c tokens r L m N again loops g s b i out next lo hi il iw (stmts_code (in_setting c tokens r L) (stmt_last s b) out next ss rest) st ls _ kb kc l (omega (arith, u, up2)) h fine.0 (omega (arith, need)) fits eb ec
      (λ i' st' ls' h' fits'. does_stmts c tokens r L m N again loops g ss (stmt_last s b) i' out next lo hi il iw rest st' ls' kn kb kc (omega (arith, l, up)) u h' fine.1 (omega (arith, need)) fits' eb ec norm))

  does_groups : (c : Coded) (tokens : List Token) (r : TypeTree) (L m N : ℕ) (again : StmtTree → State → Ran) → DoesLoops c tokens r L m N again → GivesNumbers c.program → (q : Span) (gs : GroupTrees) → DoesGroups c tokens r L m N again q gs
  does_groups c tokens r L m N again loops g q no_group b e next il rest st ls kn kc eq h k fine need fits leave_it ec norm = subst (λ x. Ends c x 0 ls st.turns st.world (kn st)) (sym eq) (norm st ls fits)
  does_groups c tokens r L m N again loops g q (also_group labels body gs) b e next il rest st ls kn kc eq h k fine need fits leave_it ec norm =
      group_ends c tokens r L m N again q labels body gs (does_stmts c tokens r L m N again loops g body) (does_groups c tokens r L m N again loops g q gs) b e next il rest st ls kn kc eq h k fine need fits leave_it ec norm

  groups_go : (c : Coded) (tokens : List Token) (r : TypeTree) (L m N : ℕ) (again : StmtTree → State → Ran) → DoesLoops c tokens r L m N again → GivesNumbers c.program → (q : Span) (gs : GroupTrees)
      → (b e next : ℕ) (il : Bool) (rest : List Item) (st : State) (kn kb kc : State → Outcome) → groups_last gs b + 1 ≡ e → HasAt c (b + 1) 0 (groups_code (in_setting c tokens r L) q (b + 1) e next gs rest) → Keeps c (b + 1) L
      → GroupsFine c.program.unit L il true gs → groups_need c.program.unit gs ≤ m → ((b' : ℕ) (st' : State) (ls' : Locals) → b' < e → Fits L m N st' ls' → Goes c b' e ls' st'.turns st'.world (kn st'))
      → (il ≡ true → Escapes c L m N (b + 1) e next kc) → ((st' : State) (ls' : Locals) → Fits L m N st' ls' → Ends c e 0 ls' st'.turns st'.world (kn st')) → GroupsGo c r L m N again (b + 1) gs st kn kb kc
  groups_go c tokens r L m N again loops g q no_group b e next il rest st kn kb kc eq h k fine need leave_it ec norm = tt
  groups_go c tokens r L m N again loops g q (also_group labels body gs) b e next il rest st kn kb kc eq h k fine need leave_it ec norm =
      let z = in_setting c tokens r L in let f = stmts_last body (b + 1) + 1 in let up = stmts_grow body (b + 1) in
      let h1 = stmts_rest c tokens r L il true body fine.0 (b + 1) 0 e next (start (Jump f) q L ∷ groups_code z q f e next gs rest) h in (
        λ b' ls' lt fits'. machine.goes_as c b' (b + 1) st.turns ls' st.world _ _ (sym (finish_unbroken (groups_by c.program r again (also_group labels body gs) st) kn kb kc))
            (ahead_goes c L m N b' (b + 1) st ls' _ k lt fits'
            (λ ls2 fits2. group_ends c tokens r L m N again q labels body gs (does_stmts c tokens r L m N again loops g body) (does_groups c tokens r L m N again loops g q gs) b e next il rest st ls2 kn kc eq h k fine need fits2 leave_it ec norm)),
        groups_go c tokens r L m N again loops g q gs (stmts_last body (b + 1)) e next il rest st kn kb kc eq h1.1.2 h1.1.1 fine.1 (omega (arith, need)) leave_it
            (λ y b' st' ls' lo' hi' fits'. ec y b' st' ls' (omega (arith, lo', up)) hi' fits') norm,
      )

-- ---- turns

does_body : (c : Coded) (tokens : List Token) (r : TypeTree) (L m N : ℕ) (again : StmtTree → State → Ran) → DoesLoops c tokens r L m N again → GivesNumbers c.program → (l : Loop) → DoesStmt c tokens r L m N again (loops_of.loop_body l)
does_body c tokens r L m N again loops g l = does_stmt c tokens r L m N again loops g (loops_of.loop_body l)

-- with no turn left no loop begins again
no_loops : (c : Coded) (tokens : List Token) (r : TypeTree) (L m : ℕ) (again : StmtTree → State → Ran) → DoesLoops c tokens r L m 0 again
no_loops c tokens r L m again l q h rest st ls kn kb kc code_at k fine a wide room lt norm = absurd (omega (arith, lt))

abbrev floor : StmtTree → State → Ran
floor s st = stops turns_spent 0 st.world

-- loops are right at any number of turns
loops_ok : (c : Coded) (tokens : List Token) (r : TypeTree) (L m N : ℕ) → GivesNumbers c.program → DoesLoops c tokens r L m (suc N) (run c.program r N)
loops_ok c tokens r L m zero g l q h rest st ls kn kb kc code_at k fine a wide room lt norm =
    loop_by c tokens r L m 0 floor (no_loops c tokens r L m floor) g l (does_body c tokens r L m 0 floor (no_loops c tokens r L m floor) g l) q h rest st ls kn kb kc code_at k fine (record { low = a; wide = wide; room = room; few = omega (arith, lt) })
    (λ st' ls' fits. let few = fits.few in norm st' ls' (record { low = fits.low; wide = fits.wide; room = fits.room; few = omega (arith, few) }))
loops_ok c tokens r L m (suc N) g l q h rest st ls kn kb kc code_at k fine a wide room lt norm =
    loop_by c tokens r L m (suc N) (run c.program r N) (loops_ok c tokens r L m N g) g l (does_body c tokens r L m (suc N) (run c.program r N) (loops_ok c tokens r L m N g) g l) q h rest st ls kn kb kc code_at k fine (record { low = a; wide = wide; room = room; few = omega (arith, lt) })
    (λ st' ls' fits. let few = fits.few in norm st' ls' (record { low = fits.low; wide = fits.wide; room = fits.room; few = omega (arith, few) }))

-- a body whose loops may begin again so often
pub run_does : (c : Coded) (tokens : List Token) (r : TypeTree) (L m N : ℕ) → GivesNumbers c.program → (s : StmtTree) (b i : ℕ) (rest : List Item) (st : State) (ls : Locals) (kn kb kc : State → Outcome) → HasAt c b i (stmt_code (in_setting c tokens r L) b 0 0 s rest)
    → StmtFine c.program.unit L false false s → stmt_need c.program.unit s ≤ m → Fits L m N st ls → Normally c L m N (stmt_last s b) rest kn → Ends c b i ls st.turns st.world (finish (run c.program r N s st) kn kb kc)
run_does c tokens r L m zero g s b i rest st ls kn kb kc h fine need fits norm =
    does_stmt c tokens r L m 0 floor (no_loops c tokens r L m floor) g s b i 0 0 0 (stmt_last s b) false false rest st ls kn kb kc (omega arith) (omega arith) h fine need fits (λ t. absurd (cc t)) (λ t. absurd (cc t)) norm
run_does c tokens r L m (suc N) g s b i rest st ls kn kb kc h fine need fits norm =
    does_stmt c tokens r L m (suc N) (run c.program r N) (loops_ok c tokens r L m N g) g s b i 0 0 0 (stmt_last s b) false false rest st ls kn kb kc (omega arith) (omega arith) h fine need fits (λ t. absurd (cc t)) (λ t. absurd (cc t)) norm
