-- The items stand in the blocks that they make, so the code of a function does what the function does.
use Rattle.std.proofs.Common.{ℕ, zero, suc, ℤ, ◌≡◌, ◌+◌, ◌-◌, ◌≤◌, ◌<◌, false, List, [], ◌∷◌, ◌++◌, length, map, replicate, Some, None, refl, sym, ap, ◌∙◌, subst, arith, append_assoc, length-append}
use Rattle.std.specs.Prelude.{slice_get, max}
use Rattle.std.proofs.lemmas.List.{append-nil}
use Rattle.cx_base.specs.declared.fault.FaultKind.TheVariants as fault
use Rattle.cx_base.specs.declared.span.Span.{Span}
use Rattle.cx_base.specs.declared.token.Token.{Token}
use Rattle.cx_cmean.specs.Program.{Program}
use Rattle.cx_cmean.specs.Statements.{State, Ran, normal, broken, continued, stops, valued, in_world, exec, closing_brace, at_end, first_locals, exec_function}
use Rattle.cx_ctree.specs.Decls.{TypedTree}
use Rattle.cx_ctree.specs.Stmts.{stmt_span}
use Rattle.cx_ctree.specs.Types.{TypeTree, void, int, pointer, array, tag}
use Rattle.cx_goto.specs.Machine as machine
use Rattle.cx_goto.specs.Machine.{stuck, ended, follow, unset_from, enter, run_of}
use Rattle.cx_goto.specs.Trees.{LineTree, BlockTree}
use Rattle.cx_goto.specs.declared.code.End.{End}
use Rattle.cx_goto.specs.declared.code.End.TheVariants.{Return, Missing}
use Rattle.cx_lcode.specs.Items.{Item, line, start, blocks_of}
use Rattle.cx_lcode.specs.Lowered.{last_end, setting_of, body_blocks, blocks_past, lowered}
use Rattle.cx_lcode.specs.Needs.{stmt_need}
use Rattle.cx_lcode.specs.Places.{stmt_last}
use Rattle.cx_lcode.specs.Statements.{stmt_code}
use Rattle.cx_lright.proofs.Locals.{Matches, matches_kept, kept_unset}
use Rattle.cx_lright.proofs.Machine.{Coded, Keeps, HasAt, Ends, ends_as, at_end_is, return_ends}
use Rattle.cx_lright.proofs.Past.{blocks_are, past_stmt}
use Rattle.cx_lright.proofs.Statements.{run_does}
use Rattle.cx_lright.proofs.Ways.{finish, finish_after}
use Rattle.cx_lright.specs.Right.{outcome_of, CodeIsRight}
use Rattle.cx_world.specs.Calls.{leave}
use Rattle.cx_world.specs.World.{World, Did, gives, halts, Locals, faulted}

-- ---- where items stand

-- the first of the blocks
record First (keep : ℕ) (done : List LineTree) (bs : List BlockTree) : Type 0 where
  k : BlockTree
  more : List BlockTree
  is : bs ≡ k ∷ more
  kept : k.keep ≡ keep
  rest : List LineTree
  lines_are : k.lines ≡ done ++ rest

first_of_blocks : (is : List Item) (keep : ℕ) (done : List LineTree) (e : End) (s : Span) → First keep done (blocks_of keep done is e s)
first_of_blocks [] keep done e s = record { k = record { keep = keep; lines = done; end = e; span = s }; more = []; is = refl; kept = refl; rest = []; lines_are = sym (append-nil done) }
first_of_blocks (line l ∷ is) keep done e s =
    let f = first_of_blocks is keep (done ++ l ∷ []) e s in
    record { k = f.k; more = f.more; is = f.is; kept = f.kept; rest = l ∷ f.rest; lines_are = f.lines_are ∙ append_assoc done (l ∷ []) f.rest }
first_of_blocks (start x q k ∷ is) keep done e s =
    record { k = record { keep = keep; lines = done; end = x; span = q }; more = blocks_of k [] is e s; is = refl; kept = refl; rest = []; lines_are = sym (append-nil done) }

get_middle : {A : Type 0} → (xs : List A) (y : A) (zs : List A) → slice_get (xs ++ y ∷ zs) (length xs) ≡ Some y
get_middle [] y zs = refl
get_middle (x ∷ xs) y zs = get_middle xs y zs

get_end : {A : Type 0} → (xs : List A) → slice_get xs (length xs) ≡ None
get_end [] = refl
get_end (x ∷ xs) = get_end xs

length_push : {A : Type 0} → (xs : List A) (y : A) → length (xs ++ y ∷ []) ≡ length xs + 1
length_push xs y = length-append xs (y ∷ [])

pub placed : (p : Program) (is : List Item) (code pre : List BlockTree) (keep : ℕ) (done : List LineTree) (e : End) (s : Span) → code ≡ pre ++ blocks_of keep done is e s
    → let c : Coded = record { program = p; blocks = code; last_end = e; last_span = s } in HasAt c (length pre) (length done) is
placed p [] code pre keep done e s eq = (record { keep = keep; lines = done; end = e; span = s }, ap (λ c. slice_get c (length pre)) eq ∙ get_middle pre _ [], get_end done, refl, refl)
placed p (line l ∷ is) code pre keep done e s eq =
    let f = first_of_blocks is keep (done ++ l ∷ []) e s in
    let at : slice_get code (length pre) ≡ Some f.k = ap (λ c. slice_get c (length pre)) (eq ∙ ap (λ bs. pre ++ bs) f.is) ∙ get_middle pre f.k f.more in
    let here : slice_get f.k.lines (length done) ≡ Some l = ap (λ ls. slice_get ls (length done)) (f.lines_are ∙ append_assoc done (l ∷ []) f.rest) ∙ get_middle done l f.rest in
    ((f.k, at, here), subst (λ i. let c : Coded = record { program = p; blocks = code; last_end = e; last_span = s } in HasAt c (length pre) i is) (length_push done l) (placed p is code pre keep (done ++ l ∷ []) e s eq))
placed p (start x q k ∷ is) code pre keep done e s eq =
    let b : BlockTree = record { keep = keep; lines = done; end = x; span = q } in
    let at : slice_get code (length pre) ≡ Some b = ap (λ c. slice_get c (length pre)) eq ∙ get_middle pre b (blocks_of k [] is e s) in
    let e2 : code ≡ (pre ++ b ∷ []) ++ blocks_of k [] is e s = eq ∙ sym (append_assoc pre (b ∷ []) (blocks_of k [] is e s)) in
    let f = first_of_blocks is k [] e s in
    let r = placed p is code (pre ++ b ∷ []) k [] e s e2 in
    let at2 : slice_get code (length (pre ++ b ∷ [])) ≡ Some f.k = ap (λ c. slice_get c (length (pre ++ b ∷ []))) (e2 ∙ ap (λ bs. (pre ++ b ∷ []) ++ bs) f.is) ∙ get_middle (pre ++ b ∷ []) f.k f.more in
    let c : Coded = record { program = p; blocks = code; last_end = e; last_span = s } in
    ((b, at, get_end done, refl, refl), subst (λ n. Keeps c n k) (length_push pre b) (f.k, at2, f.kept), subst (λ n. HasAt c n 0 is) (length_push pre b) r)

-- ---- ends of functions

outcome_is : (r : Ran) → finish r (λ st. stuck) (λ st. stuck) (λ st. stuck) ≡ outcome_of r
outcome_is (normal st) = refl
outcome_is (broken st) = refl
outcome_is (continued st) = refl
outcome_is (stops h n w) = refl

leaves_is : (st : State) (d : Did (Unit {0})) → follow d st.turns (λ u w. stuck) ≡ finish (valued d st.turns (λ u w. normal (in_world st w))) (λ st. stuck) (λ st. stuck) (λ st. stuck)
leaves_is st (gives u w) = refl
leaves_is st (halts h w) = refl

missing_ends : (c : Coded) (b i n : ℕ) (s : Span) (ls : Locals) (w : World) → HasAt c b i [] → c.last_end ≡ Missing → c.last_span ≡ s → Ends c b i ls n w (ended (faulted fault.End s) n w)
missing_ends c b i n s ls w h e q = (1, at_end_is c b i 0 n ls w c.last_end c.last_span h ∙ ap (λ x. machine.leave c.program.oracle c.blocks x c.last_span b (machine.machine c.program.oracle c.blocks 0) ls n w) e ∙ ap (λ z. ended (faulted fault.End z) n w) q)

end_does : (p : Program) (blocks : List BlockTree) (r : TypeTree) (s : Span) (b i : ℕ) (st : State) (ls : Locals)
    → let c : Coded = record { program = p; blocks = blocks; last_end = last_end r; last_span = closing_brace s } in HasAt c b i [] → Ends c b i ls st.turns st.world (finish (at_end p r s st) (λ st. stuck) (λ st. stuck) (λ st. stuck))
end_does p blocks void s b i st ls h =
    let c : Coded = record { program = p; blocks = blocks; last_end = Return None; last_span = closing_brace s } in
    ends_as c b i st.turns ls st.world _ _ (leaves_is st (leave p.oracle None st.world)) (return_ends c b i st.turns (closing_brace s) ls st.world None None (λ u w. stuck) h (λ u. refl))
end_does p blocks (int t) s b i st ls h = let c : Coded = record { program = p; blocks = blocks; last_end = Missing; last_span = closing_brace s } in missing_ends c b i st.turns (closing_brace s) ls st.world h refl refl
end_does p blocks (pointer t) s b i st ls h = let c : Coded = record { program = p; blocks = blocks; last_end = Missing; last_span = closing_brace s } in missing_ends c b i st.turns (closing_brace s) ls st.world h refl refl
end_does p blocks (array t n) s b i st ls h = let c : Coded = record { program = p; blocks = blocks; last_end = Missing; last_span = closing_brace s } in missing_ends c b i st.turns (closing_brace s) ls st.world h refl refl
end_does p blocks (tag t) s b i st ls h = let c : Coded = record { program = p; blocks = blocks; last_end = Missing; last_span = closing_brace s } in missing_ends c b i st.turns (closing_brace s) ls st.world h refl refl

-- ---- the locals at first

abbrev blank : ℕ → Locals
blank n = replicate n None

abbrev given : List ℤ → Locals
given vs = map (λ v. Some v) vs

get_blank : (n m x : ℕ) → x < n → n ≤ m → slice_get (blank m) x ≡ slice_get (blank n) x
get_blank zero m x lt le = absurd (omega (arith, lt))
get_blank (suc n) zero x lt le = absurd (omega (arith, le))
get_blank (suc n) (suc m) zero lt le = refl
get_blank (suc n) (suc m) (suc x) lt le = get_blank n m x (omega (arith, lt)) (omega (arith, le))

get_args : (vs : List ℤ) (n m x : ℕ) → x < length vs + n → n ≤ m → slice_get (given vs ++ blank m) x ≡ slice_get (given vs ++ blank n) x
get_args [] n m x lt le = get_blank n m x (omega (arith, lt)) le
get_args (v ∷ vs) n m zero lt le = refl
get_args (v ∷ vs) n m (suc x) lt le = get_args vs n m x (omega (arith, lt)) le

length_map : (vs : List ℤ) → length (given vs) ≡ length vs
length_map [] = refl
length_map (v ∷ vs) = ap suc (length_map vs)

length_blank : (n : ℕ) → length (blank n) ≡ n
length_blank zero = refl
length_blank (suc n) = ap suc (length_blank n)

length_first : (vs : List ℤ) (n : ℕ) → length (given vs ++ blank n) ≡ length vs + n
length_first vs n = length-append (given vs) (blank n) ∙ ap (λ k. k + length (blank n)) (length_map vs) ∙ ap (λ k. length vs + k) (length_blank n)

-- ---- functions

pub code_is_right : CodeIsRight
code_is_right p tokens f fine g args turns w few =
    let L = length f.locals in let z = setting_of p.unit tokens f in let s = closing_brace (stmt_span f.body) in let r = f.sig.result in
    let blocks = body_blocks z f in let K = max L (blocks_past blocks) in let m = stmt_need p.unit f.body in
    let c : Coded = record { program = p; blocks = blocks; last_end = last_end r; last_span = s } in
    let items = stmt_code z 0 0 0 f.body [] in
    let h = placed p items blocks [] L [] (last_end r) s refl in
    let st : State = record { locals = first_locals f args; turns = turns; world = w } in
    let ls = given args ++ blank (K - length args) in
    let room : L + m ≤ K = let b = blocks_are items L [] (last_end r) s in let q = past_stmt z false false f.body fine.1 0 0 0 [] in omega (arith, b, q) in
    let long = length_first args (K - length args) in let wide = length_first args (L - length args) in
    let low : Matches L (first_locals f args) ls = record { same = λ x lt. get_args args (L - length args) (K - length args) x (omega (arith, lt, few)) (omega (arith, few)) } in
    let all = λ (x : State). at_end p r (stmt_span f.body) x in
    let k = kept_unset L L ls (omega arith) in let long2 = k.long in
    let e = ends_as c 0 0 turns (unset_from L ls) w _ _ (sym (finish_after (exec p r f.body st) all (λ st. stuck) (λ st. stuck) (λ st. stuck)) ∙ outcome_is (exec_function p f args turns w))
    (run_does c tokens r L m turns g f.body 0 0 [] st (unset_from L ls) (λ x. finish (all x) (λ st. stuck) (λ st. stuck) (λ st. stuck)) (λ st. stuck) (λ st. stuck) h fine.1 (omega arith)
    (record { low = matches_kept L L (first_locals f args) ls (unset_from L ls) (omega arith) low k; wide = omega (arith, wide, few); room = omega (arith, room, long, long2, few); few = omega arith })
    (λ i' st' ls' h' fits'. end_does p blocks r (stmt_span f.body) (stmt_last f.body 0) i' st' ls' h')) in
    (e.0, first_block p f tokens args turns w e.0 ∙ e.1)
  where
    first_block : (p : Program) (f : TypedTree) (tokens : List Token) (args : List ℤ) (turns : ℕ) (w : World) (j : ℕ)
        → let z = setting_of p.unit tokens f in let bs = body_blocks z f in let ls = given args ++ blank (max (length f.locals) (blocks_past bs) - length args) in
        run_of p.oracle (lowered p.unit tokens f) j args turns w ≡ machine.machine p.oracle bs j 0 0 (unset_from (length f.locals) ls) turns w
    first_block p f tokens args turns w j =
        let z = setting_of p.unit tokens f in let bs = body_blocks z f in let s = closing_brace (stmt_span f.body) in
        let first = first_of_blocks (stmt_code z 0 0 0 f.body []) (length f.locals) [] (last_end f.sig.result) s in
        let ls = given args ++ blank (max (length f.locals) (blocks_past bs) - length args) in
        ap (λ k. enter (slice_get k 0) 0 (machine.machine p.oracle bs j) ls turns w) first.is ∙ ap (λ n. machine.machine p.oracle bs j 0 0 (unset_from n ls) turns w) first.kept
