-- The labels of a switch go to the group that the value goes to.
use Rattle.std.proofs.Common.{ℕ, ℤ, ◌≡◌, ◌+◌, ◌<◌, ◌≤◌, ◌||◌, Bool, true, false, List, [], ◌∷◌, Option, Some, None, refl, sym, ap, ◌∙◌, arith}
use Rattle.std.specs.Prelude.{slice_get, slice_set, if◌then◌else◌}
use Rattle.std.specs.List.{list_any}
use Rattle.std.specs.Ordering.{int_eq}
use Rattle.std.proofs.lemmas.List.{length-set}
use Rattle.cx_base.specs.declared.span.Span.{Span}
use Rattle.cx_base.specs.declared.token.Token.{Token}
use Rattle.cx_cmean.specs.Statements.{State, Ran, unbroken, after, label_number, is_label, is_default, has_label, goes_to, execs_by, groups_by, from_label}
use Rattle.cx_ctree.specs.Exprs.{ExprTree, span_of}
use Rattle.cx_ctree.specs.Stmts.{StmtTree, StmtTrees, GroupTrees, no_group, also_group}
use Rattle.cx_ctree.specs.Types.{TypeTree}
use Rattle.cx_goto.specs.Machine.{Outcome, unset_from}
use Rattle.cx_goto.specs.declared.code.End.TheVariants.{Jump}
use Rattle.cx_goto.specs.declared.code.Rel.TheVariants.{Eq}
use Rattle.cx_lcode.specs.Items.{Item, start}
use Rattle.cx_lcode.specs.Needs.{labels_need, groups_need}
use Rattle.cx_lcode.specs.Places.{labels_last, all_labels_last, stmts_last}
use Rattle.cx_lcode.specs.Statements.{labels_code, all_labels_code, default_block}
use Rattle.cx_lright.proofs.Afters.{in_setting}
use Rattle.cx_lright.proofs.Grows as grows
use Rattle.cx_lright.proofs.Grows.{labels_grow, all_labels_grow}
use Rattle.cx_lright.proofs.Lines.{const_ends}
use Rattle.cx_lright.proofs.Locals.{Kept, kept_set, kept_unset, matches_kept, get-set_same, get-set_other}
use Rattle.cx_lright.proofs.Machine as machine
use Rattle.cx_lright.proofs.Machine.{Coded, HasAt, Ends, ends_as, Goes, goes_as, branch_ends, goes_ahead}
use Rattle.cx_lright.proofs.Ways.{finish, Fits}
use Rattle.cx_world.specs.World.{Locals}

-- the state, and the value in the first local that serves statements
pub record Holds (L m N : ℕ) (st : State) (v : ℤ) (ls : Locals) : Type 0 where
  pub fits : Fits L m N st ls
  pub value : slice_get ls L ≡ Some (Some v)

holds_after : (L m N : ℕ) (st : State) (v : ℤ) (ls ms : Locals) → Kept (L + 1) ls ms → Holds L m N st v ls → Holds L m N st v ms
holds_after L m N st v ls ms k h =
    let fits = h.fits in let room = fits.room in let long = k.long in record {
      fits = record { low = matches_kept L (L + 1) st.locals ls ms (omega arith) fits.low k; wide = fits.wide; room = omega (arith, room, long); few = fits.few };
      value = k.same L (omega arith) ∙ h.value;
    }

labels_few : (ls : List (Option ExprTree)) → labels_need ls ≤ 2
labels_few [] = omega arith
labels_few (None ∷ ls) = labels_few ls
labels_few (Some e ∷ ls) = omega arith

-- from the labels of a group: to its block where one is the value's, and on where none is
labels_go : (c : Coded) (tokens : List Token) (r : TypeTree) (L m N : ℕ) (sv : Span) (t : TypeTree) (g : ℕ) (labels : List (Option ExprTree)) (b i : ℕ) (rest : List Item) (st : State) (v : ℤ) (ls : Locals) (o : Outcome) → labels_need labels ≤ m
    → HasAt c b i (labels_code (in_setting c tokens r L) sv t g labels b rest) → Holds L m N st v ls
    → (list_any (is_label c.program.unit t v) labels ≡ true → (b' : ℕ) (ls' : Locals) → b' ≤ labels_last labels b → Holds L m N st v ls' → Goes c b' g ls' st.turns st.world o)
    → (list_any (is_label c.program.unit t v) labels ≡ false → (i' : ℕ) (ls' : Locals) → HasAt c (labels_last labels b) i' rest → Holds L m N st v ls' → Ends c (labels_last labels b) i' ls' st.turns st.world o)
    → Ends c b i ls st.turns st.world o
labels_go c tokens r L m N sv t g [] b i rest st v ls o two h k hit miss = miss refl i ls h k
labels_go c tokens r L m N sv t g (None ∷ labels) b i rest st v ls o two h k hit miss = labels_go c tokens r L m N sv t g labels b i rest st v ls o two h k hit miss
labels_go c tokens r L m N sv t g (Some e ∷ labels) b i rest st v ls o two h k hit miss =
    let n = label_number c.program.unit t e in let room = k.fits.room in let ls1 = slice_set ls (L + 1) (Some n) in let long = length-set ls (L + 1) (Some n) in
    const_ends c b i (L + 1) st.turns (span_of e) ls st.world n o h.0
    (branch_ends c b (i + 1) L (L + 1) st.turns sv ls1 st.world Eq v n g (b + 1) o h.1.0 (get-set_other ls (L + 1) L (Some n) (omega arith) ∙ k.value) (get-set_same ls (L + 1) (Some n) (omega (arith, room, two)))
    (by_match (int_eq v n) (λ ls' k' hit miss. labels_go c tokens r L m N sv t g labels (b + 1) 0 rest st v ls' o (let few = labels_few labels in omega (arith, few, two)) h.1.2 k' hit miss) hit miss ls1 (holds_after L m N st v ls ls1 (kept_set (L + 1) (L + 1) ls (Some n) (omega arith)) k)))
  where
    by_match : (z : Bool)
        → ((ls' : Locals) → Holds L m N st v ls'
        → (list_any (is_label c.program.unit t v) labels ≡ true → (b' : ℕ) (ls' : Locals) → b' ≤ labels_last labels (b + 1) → Holds L m N st v ls' → Goes c b' g ls' st.turns st.world o)
        → (list_any (is_label c.program.unit t v) labels ≡ false → (i' : ℕ) (ls' : Locals) → HasAt c (labels_last labels (b + 1)) i' rest → Holds L m N st v ls' → Ends c (labels_last labels (b + 1)) i' ls' st.turns st.world o)
        → Ends c (b + 1) 0 ls' st.turns st.world o)
        → (z || list_any (is_label c.program.unit t v) labels ≡ true → (b' : ℕ) (ls' : Locals) → b' ≤ labels_last labels (b + 1) → Holds L m N st v ls' → Goes c b' g ls' st.turns st.world o)
        → (z || list_any (is_label c.program.unit t v) labels ≡ false → (i' : ℕ) (ls' : Locals) → HasAt c (labels_last labels (b + 1)) i' rest → Holds L m N st v ls' → Ends c (labels_last labels (b + 1)) i' ls' st.turns st.world o)
        → (ls1 : Locals) → Holds L m N st v ls1 → Goes c b (if z then g else b + 1) ls1 st.turns st.world o
    by_match true more hit miss ls1 k1 = let up = labels_grow labels (b + 1) in hit refl b ls1 (omega (arith, up)) k1
    by_match false more hit miss ls1 k1 =
        goes_ahead c b (b + 1) (L + 1) st.turns ls1 st.world o h.1.1 (omega arith) (more (unset_from (L + 1) ls1) (holds_after L m N st v ls1 (unset_from (L + 1) ls1) (kept_unset (L + 1) (L + 1) ls1 (omega arith)) k1) hit miss)

-- going to each group from a block before it does its statements and those of the groups after it
abbrev pub GroupsGo : (c : Coded) (r : TypeTree) (L m N : ℕ) (again : StmtTree → State → Ran) (g : ℕ) (gs : GroupTrees) (st : State) (kn kb kc : State → Outcome) → Type 0
GroupsGo c r L m N again g no_group st kn kb kc = Unit {0}
GroupsGo c r L m N again g (also_group labels body gs) st kn kb kc =
    ((b' : ℕ) (ls' : Locals) → b' < g → Fits L m N st ls' → Goes c b' g ls' st.turns st.world (finish (unbroken (after (execs_by c.program r again body st) (groups_by c.program r again gs))) kn kb kc))
    × GroupsGo c r L m N again (stmts_last body g + 1) gs st kn kb kc

or_false : (x y : Bool) → x || y ≡ false → x ≡ false
or_false true y e = e
or_false false y e = refl

or_right : (x y : Bool) → x ≡ false → x || y ≡ y
or_right true y e = absurd (cc e)
or_right false y e = refl

-- from the labels of all groups on, where some label is the value's
all_labels_go : (c : Coded) (tokens : List Token) (r : TypeTree) (L m N : ℕ) (again : StmtTree → State → Ran) (sv : Span) (t : TypeTree) (g : ℕ) (gs : GroupTrees) (b i : ℕ) (rest : List Item) (st : State) (v : ℤ) (ls : Locals) (kn kb kc : State → Outcome) → groups_need c.program.unit gs ≤ m
    → all_labels_last gs b < g → HasAt c b i (all_labels_code (in_setting c tokens r L) sv t g gs b rest) → Holds L m N st v ls → GroupsGo c r L m N again g gs st kn kb kc
    → has_label (is_label c.program.unit t v) gs ≡ true → Ends c b i ls st.turns st.world (finish (unbroken (from_label c.program r again (is_label c.program.unit t v) gs st)) kn kb kc)
all_labels_go c tokens r L m N again sv t g no_group b i rest st v ls kn kb kc two lt h k go e = absurd (cc e)
all_labels_go c tokens r L m N again sv t g (also_group labels body gs) b i rest st v ls kn kb kc two lt h k go e =
    labels_go c tokens r L m N sv t g labels b i (all_labels_code (in_setting c tokens r L) sv t (stmts_last body g + 1) gs (labels_last labels b) rest) st v ls _ (omega (arith, two)) h k
    (λ y b' ls' le k'. let up = all_labels_grow gs (labels_last labels b) in
    goes_as c b' g st.turns ls' st.world _ _ (ap (λ z. finish (unbroken (if z then after (execs_by c.program r again body st) (groups_by c.program r again gs) else from_label c.program r again (is_label c.program.unit t v) gs st)) kn kb kc) (sym y))
    (go.0 b' ls' (omega (arith, up, lt, le)) k'.fits))
    (λ y i' ls' h' k'. let up = grows.stmts_grow body g in
    ends_as c (labels_last labels b) i' st.turns ls' st.world _ _ (ap (λ z. finish (unbroken (if z then after (execs_by c.program r again body st) (groups_by c.program r again gs) else from_label c.program r again (is_label c.program.unit t v) gs st)) kn kb kc) (sym y))
    (all_labels_go c tokens r L m N again sv t (stmts_last body g + 1) gs (labels_last labels b) i' rest st v ls' kn kb kc (omega (arith, two)) (omega (arith, lt, up)) h' k' go.1
    (sym (or_right (list_any (is_label c.program.unit t v) labels) (has_label (is_label c.program.unit t v) gs) y) ∙ e)))

-- the same where no label is: what stands after the labels comes next
no_label_goes : (c : Coded) (tokens : List Token) (r : TypeTree) (L m N : ℕ) (sv : Span) (t : TypeTree) (g : ℕ) (gs : GroupTrees) (b i : ℕ) (rest : List Item) (st : State) (v : ℤ) (ls : Locals) (o : Outcome) → groups_need c.program.unit gs ≤ m
    → HasAt c b i (all_labels_code (in_setting c tokens r L) sv t g gs b rest) → Holds L m N st v ls → has_label (is_label c.program.unit t v) gs ≡ false
    → ((i' : ℕ) (ls' : Locals) → HasAt c (all_labels_last gs b) i' rest → Holds L m N st v ls' → Ends c (all_labels_last gs b) i' ls' st.turns st.world o) → Ends c b i ls st.turns st.world o
no_label_goes c tokens r L m N sv t g no_group b i rest st v ls o two h k e next = next i ls h k
no_label_goes c tokens r L m N sv t g (also_group labels body gs) b i rest st v ls o two h k e next =
    let none = or_false (list_any (is_label c.program.unit t v) labels) (has_label (is_label c.program.unit t v) gs) e in
    labels_go c tokens r L m N sv t g labels b i (all_labels_code (in_setting c tokens r L) sv t (stmts_last body g + 1) gs (labels_last labels b) rest) st v ls o (omega (arith, two)) h k
    (λ y b' ls' le k'. absurd (let q : true ≡ false = sym y ∙ none in cc q))
    (λ y i' ls' h' k'. no_label_goes c tokens r L m N sv t (stmts_last body g + 1) gs (labels_last labels b) i' rest st v ls' o (omega (arith, two)) h' k'
    (sym (or_right (list_any (is_label c.program.unit t v) labels) (has_label (is_label c.program.unit t v) gs) none) ∙ e) next)

either_goes : (c : Coded) (r : TypeTree) (L m N : ℕ) (again : StmtTree → State → Ran) (g e b : ℕ) (labels : List (Option ExprTree)) (body : StmtTrees) (gs : GroupTrees) (st : State) (ls : Locals) (kn kb kc : State → Outcome)
    → Goes c b g ls st.turns st.world (finish (unbroken (after (execs_by c.program r again body st) (groups_by c.program r again gs))) kn kb kc)
    → Goes c b (default_block (stmts_last body g + 1) e gs) ls st.turns st.world (finish (unbroken (from_label c.program r again is_default gs st)) kn kb kc) → (z : Bool)
    → Goes c b (if z then g else default_block (stmts_last body g + 1) e gs) ls st.turns st.world
    (finish (unbroken (if z then after (execs_by c.program r again body st) (groups_by c.program r again gs) else from_label c.program r again is_default gs st)) kn kb kc)
either_goes c r L m N again g e b labels body gs st ls kn kb kc here later true = here
either_goes c r L m N again g e b labels body gs st ls kn kb kc here later false = later

-- to the group with the default, or to the end
default_goes : (c : Coded) (r : TypeTree) (L m N : ℕ) (again : StmtTree → State → Ran) (g e b : ℕ) (gs : GroupTrees) (st : State) (ls : Locals) (kn kb kc : State → Outcome) → b < g → Fits L m N st ls → GroupsGo c r L m N again g gs st kn kb kc
    → Goes c b e ls st.turns st.world (kn st) → Goes c b (default_block g e gs) ls st.turns st.world (finish (unbroken (from_label c.program r again is_default gs st)) kn kb kc)
default_goes c r L m N again g e b no_group st ls kn kb kc lt fits go out = out
default_goes c r L m N again g e b (also_group labels body gs) st ls kn kb kc lt fits go out =
    let up = grows.stmts_grow body g in
    either_goes c r L m N again g e b labels body gs st ls kn kb kc (go.0 b ls lt fits) (default_goes c r L m N again (stmts_last body g + 1) e b gs st ls kn kb kc (omega (arith, lt, up)) fits go.1 out) (list_any is_default labels)

-- from the labels of all groups on: to the group that the value goes to
pub switch_goes : (c : Coded) (tokens : List Token) (r : TypeTree) (L m N : ℕ) (again : StmtTree → State → Ran) (q sv : Span) (t : TypeTree) (g e : ℕ) (gs : GroupTrees) (b i : ℕ) (rest : List Item) (st : State) (v : ℤ) (ls : Locals) (kn kb kc : State → Outcome)
    → groups_need c.program.unit gs ≤ m → all_labels_last gs b < g → HasAt c b i (all_labels_code (in_setting c tokens r L) sv t g gs b (start (Jump (default_block g e gs)) q L ∷ rest)) → Holds L m N st v ls → GroupsGo c r L m N again g gs st kn kb kc
    → ((ls' : Locals) → Fits L m N st ls' → Goes c (all_labels_last gs b) e ls' st.turns st.world (kn st))
    → Ends c b i ls st.turns st.world (finish (unbroken (from_label c.program r again (goes_to c.program.unit t v gs) gs st)) kn kb kc)
switch_goes c tokens r L m N again q sv t g e gs b i rest st v ls kn kb kc two lt h k go out = by_has (has_label (is_label c.program.unit t v) gs) refl
  where
    by_has : (z : Bool) → has_label (is_label c.program.unit t v) gs ≡ z → Ends c b i ls st.turns st.world (finish (unbroken (from_label c.program r again (if z then is_label c.program.unit t v else is_default) gs st)) kn kb kc)
    by_has true y = all_labels_go c tokens r L m N again sv t g gs b i (start (Jump (default_block g e gs)) q L ∷ rest) st v ls kn kb kc two lt h k go y
    by_has false y =
        no_label_goes c tokens r L m N sv t g gs b i (start (Jump (default_block g e gs)) q L ∷ rest) st v ls _ two h k y
        (λ i' ls' h' k'. machine.jump_ends c (all_labels_last gs b) i' (default_block g e gs) st.turns q ls' st.world _ h'.0
        (default_goes c r L m N again g e (all_labels_last gs b) gs st ls' kn kb kc lt k'.fits go (out ls' k'.fits)))
