-- The code of an expression does what the expression gives.
use Rattle.std.proofs.Common.{ℕ, ℤ, pos, negsuc, ◌≡◌, ◌+◌, ◌<◌, ◌≤◌, ◌-ℤ◌, Bool, true, false, not, List, ◌∷◌, length, Some, refl, sym, ap, ◌∙◌, subst, arith}
use Rattle.std.specs.Prelude.{slice_get, slice_set, max, if◌then◌else◌}
use Rattle.cx_base.specs.declared.span.Span.{Span}
use Rattle.cx_cconst.specs.Constants.{converted, truth, number_type}
use Rattle.cx_cmean.specs.Expressions.{object_at, further, target, eval, eval_kind, place, place_kind}
use Rattle.cx_cmean.specs.Numbers.{value_type, number_of, as_type, is_zero, as_number, operate, compared_in, first_in, second_in}
use Rattle.cx_cmean.specs.Program.{offset_in, size_in}
use Rattle.cx_ctree.specs.Exprs.{ExprTree, node, ExprKindTree, num, name, local, global, unary, binary, cond, cast, size_of, size_of_expr, index, member, arrow, deref, address, span_of, type_of}
use Rattle.cx_ctree.specs.Types.{TypeTree}
use Rattle.cx_ctree.specs.declared.expr.Binary.{Binary}
use Rattle.cx_ctree.specs.declared.expr.Binary.TheVariants as ops
use Rattle.cx_ctree.specs.declared.expr.Unary.TheVariants as u
use Rattle.cx_goto.specs.Machine as machine
use Rattle.cx_goto.specs.Machine.{Outcome, follow, unset_from, put_in}
use Rattle.cx_goto.specs.Operations.{relates}
use Rattle.cx_goto.specs.Trees as trees
use Rattle.cx_goto.specs.declared.code.End.TheVariants.{Jump}
use Rattle.cx_goto.specs.declared.code.Op.TheVariants.{Sub, Xor}
use Rattle.cx_lcode.specs.Items as items
use Rattle.cx_lcode.specs.Items.{Item, start}
use Rattle.cx_lcode.specs.Needs as size
use Rattle.cx_lcode.specs.Needs.{Needs, of_two, needs, kind_needs, place_need, kind_place_need}
use Rattle.cx_lcode.specs.Places.{Last, both, either, comparing, last_of_two, last, kind_last, last_place, kind_last_place}
use Rattle.cx_lcode.specs.Values as values
use Rattle.cx_lcode.specs.Values.{Code, rel_of, binary_code, code_of, kind_code, place_code, kind_place_code}
use Rattle.cx_lright.proofs.Does.{DoesVal, DoesTest, by_truth, by_number, Does, does_as, does_by_value, does_by_test, number_does, two_numbers}
use Rattle.cx_lright.proofs.Grows.{Grows, grows, kind_grows, place_grows}
use Rattle.cx_lright.proofs.Lines.{const_ends, with_number, sure_ends, further_ends, object_ends}
use Rattle.cx_lright.proofs.Locals.{Matches, Kept, kept_refl, kept_trans, matches_kept, kept_set, kept_unset, get-set_same, get-unset}
use Rattle.cx_lright.proofs.Machine.{Coded, Keeps, HasAt, Ends, ends_as, ends_on, line_ends, still_ends, Goes, jump_ends, branch_ends, goes_ahead, goes_either}
use Rattle.cx_lright.proofs.Needing.{ones, place_ones, both_in_operation}
use Rattle.cx_lright.proofs.Operators.{operation_does}
use Rattle.cx_lright.proofs.Rests.{Rest, after_number, rest_binary, rest_of, kind_rest}
use Rattle.cx_lright.proofs.Sums.{complement_is}
use Rattle.cx_lright.specs.Fine.{takes, Fine, KindFine, PlaceFine, KindPlaceFine}
use Rattle.cx_sname.specs.File.{Declared}
use Rattle.cx_world.specs.Access.{address_of}
use Rattle.cx_world.specs.World.{World, Did, gives, halts, go_on, Locals, set_number}

-- ---- && and ||

-- from the first side of `&&`: to the second where the first was not 0
second_of_both : (c : Coded) (L ny : ℕ) (xs : Locals) (ly : Last) (y : Code) (ey : World → Did ℤ) → Grows ly → DoesTest c L ny xs ly.test y.test ey by_number
    → (a k t j m keep n : ℕ) (ls : Locals) (w : World) (rest : List Item) (go : Bool → World → Outcome) → L ≤ t → t + ny ≤ length ls → Matches L xs ls → Keeps c k t → a < k
    → HasAt c k 0 (y.test k t j m keep rest) → ((b' : ℕ) (z : Bool) (w' : World) (ls' : Locals) → a ≤ b' → b' ≤ ly.test k → Kept t ls ls' → Goes c b' (by_truth z j m) ls' n w' (go z w'))
    → (z : Bool) → Goes c a (if z then m else k) ls n w (follow (if z then gives false w else go_on (ey w) (λ v w. gives (not (is_zero v)) w)) n go)
second_of_both c L ny xs ly y ey g d a k t j m keep n ls w rest go lo room mt kk lk h next true = let up = g.test k in next a false w ls (omega arith) (omega (arith, up, lk)) (kept_refl t ls)
second_of_both c L ny xs ly y ey g d a k t j m keep n ls w rest go lo room mt kk lk h next false =
    let ls1 = unset_from t ls in let a1 = kept_unset t t ls (omega arith) in let long = a1.long in
    goes_ahead c a k t n ls w _ kk lk
    (ends_on c k 0 n ls1 w (ey w) (λ v w. gives (not (is_zero v)) w) go
    (d k 0 t j m keep n ls1 w rest (λ v w. go (not (is_zero v)) w) lo (omega (arith, room, long)) (matches_kept L t xs ls ls1 lo mt a1) h
    (λ b' v w' ls' l' u' a'. subst (λ x. Goes c b' x ls' n w' (go (not (is_zero v)) w')) (not_goes (is_zero v) j m) (next b' (not (is_zero v)) w' ls' (omega (arith, l', lk)) u' (kept_trans t t ls ls1 ls' (omega arith) a1 a')))))
  where
    not_goes : (z : Bool) (j m : ℕ) → (if not z then j else m) ≡ (if z then m else j)
    not_goes true j m = refl
    not_goes false j m = refl

-- from the first side of `||`: to the second where the first was 0
second_of_either : (c : Coded) (L ny : ℕ) (xs : Locals) (ly : Last) (y : Code) (ey : World → Did ℤ) → Grows ly → DoesTest c L ny xs ly.test y.test ey by_number
    → (a k t j m keep n : ℕ) (ls : Locals) (w : World) (rest : List Item) (go : Bool → World → Outcome) → L ≤ t → t + ny ≤ length ls → Matches L xs ls → Keeps c k t → a < k
    → HasAt c k 0 (y.test k t j m keep rest) → ((b' : ℕ) (z : Bool) (w' : World) (ls' : Locals) → a ≤ b' → b' ≤ ly.test k → Kept t ls ls' → Goes c b' (by_truth z j m) ls' n w' (go z w'))
    → (z : Bool) → Goes c a (if z then k else j) ls n w (follow (if z then go_on (ey w) (λ v w. gives (not (is_zero v)) w) else gives true w) n go)
second_of_either c L ny xs ly y ey g d a k t j m keep n ls w rest go lo room mt kk lk h next false = let up = g.test k in next a true w ls (omega arith) (omega (arith, up, lk)) (kept_refl t ls)
second_of_either c L ny xs ly y ey g d a k t j m keep n ls w rest go lo room mt kk lk h next true =
    let ls1 = unset_from t ls in let a1 = kept_unset t t ls (omega arith) in let long = a1.long in
    goes_ahead c a k t n ls w _ kk lk
    (ends_on c k 0 n ls1 w (ey w) (λ v w. gives (not (is_zero v)) w) go
    (d k 0 t j m keep n ls1 w rest (λ v w. go (not (is_zero v)) w) lo (omega (arith, room, long)) (matches_kept L t xs ls ls1 lo mt a1) h
    (λ b' v w' ls' l' u' a'. subst (λ x. Goes c b' x ls' n w' (go (not (is_zero v)) w')) (not_goes (is_zero v) j m) (next b' (not (is_zero v)) w' ls' (omega (arith, l', lk)) u' (kept_trans t t ls ls1 ls' (omega arith) a1 a')))))
  where
    not_goes : (z : Bool) (j m : ℕ) → (if not z then j else m) ≡ (if z then m else j)
    not_goes true j m = refl
    not_goes false j m = refl

both_does : (c : Coded) (L : ℕ) (xs : Locals) (q s : Span) (op : Binary) (v w : TypeTree) (x y : Code) (sx sy : Span) (lx ly : Last) (nx ny : Needs) (ex ey : World → Did ℤ) → 1 ≤ nx.test → Grows lx → Grows ly → Rest c lx x → Rest c ly y
    → Does c L nx xs lx x ex → Does c L ny xs ly y ey
    → Does c L (of_two both v w nx ny) xs (last_of_two both lx ly) (binary_code c.program.unit q s both op v w x y sx sy lx (last_of_two both lx ly))
    (λ z. as_number (go_on (ex z) (λ a z. if is_zero a then gives false z else go_on (ey z) (λ b z. gives (not (is_zero b)) z))))
both_does c L xs q s op v w x y sx sy lx ly nx ny ex ey one gx gy rx ry dx dy =
    does_by_test c L _ xs q s (last_of_two both lx ly).test _ _ (omega (arith, one)) (rest_binary c c.program.unit q s both op v w x y sx sy lx ly rx ry).test
    (λ b i t j m keep n ls z rest go lo room mt h next. let k = lx.test b + 1 in let r = rx.test b i t k m t _ h in
    ends_on c b i n ls z (ex z) _ go
    (dx.test b i t k m t n ls z _ _ lo (omega (arith, room)) mt h
    (λ b' a z' ls' l' u' k'. let long = k'.long in
    second_of_both c L ny.test xs ly y ey gy dy.test b' k t j m keep n ls' z' rest go lo (omega (arith, room, long)) (matches_kept L t xs ls ls' lo mt k') r.0 (omega (arith, u')) r.1
    (λ b2 z2 w2 ls2 l2 u2 k2. next b2 z2 w2 ls2 (omega (arith, l', l2)) u2 (kept_trans t t ls ls' ls2 (omega arith) k' k2)) (is_zero a))))

either_does : (c : Coded) (L : ℕ) (xs : Locals) (q s : Span) (op : Binary) (v w : TypeTree) (x y : Code) (sx sy : Span) (lx ly : Last) (nx ny : Needs) (ex ey : World → Did ℤ) → 1 ≤ nx.test → Grows lx → Grows ly → Rest c lx x → Rest c ly y
    → Does c L nx xs lx x ex → Does c L ny xs ly y ey
    → Does c L (of_two either v w nx ny) xs (last_of_two either lx ly) (binary_code c.program.unit q s either op v w x y sx sy lx (last_of_two either lx ly))
    (λ z. as_number (go_on (ex z) (λ a z. if is_zero a then go_on (ey z) (λ b z. gives (not (is_zero b)) z) else gives true z)))
either_does c L xs q s op v w x y sx sy lx ly nx ny ex ey one gx gy rx ry dx dy =
    does_by_test c L _ xs q s (last_of_two either lx ly).test _ _ (omega (arith, one)) (rest_binary c c.program.unit q s either op v w x y sx sy lx ly rx ry).test
    (λ b i t j m keep n ls z rest go lo room mt h next. let k = lx.test b + 1 in let r = rx.test b i t j k t _ h in
    ends_on c b i n ls z (ex z) _ go
    (dx.test b i t j k t n ls z _ _ lo (omega (arith, room)) mt h
    (λ b' a z' ls' l' u' k'. let long = k'.long in
    second_of_either c L ny.test xs ly y ey gy dy.test b' k t j m keep n ls' z' rest go lo (omega (arith, room, long)) (matches_kept L t xs ls ls' lo mt k') r.0 (omega (arith, u')) r.1
    (λ b2 z2 w2 ls2 l2 u2 k2. next b2 z2 w2 ls2 (omega (arith, l', l2)) u2 (kept_trans t t ls ls' ls2 (omega arith) k' k2)) (is_zero a))))

-- ---- comparisons

-- a comparison gives the truth of a relation of the two numbers in one type
abbrev IsCompared : Declared → Span → Binary → TypeTree → TypeTree → Type 0
IsCompared d s op v w = (x y : ℤ) (z : World) → operate d s op v w x y z ≡ gives (truth (relates (rel_of op) (first_in v w x) (second_in v w y))) z

compares : (ex ey : World → Did ℤ) (d : Declared) (s : Span) (op : Binary) (v w : TypeTree) → IsCompared d s op v w → (z : World)
    → as_number (go_on (ex z) (λ a z. go_on (ey z) (λ b z. gives (relates (rel_of op) (first_in v w a) (second_in v w b)) z))) ≡ go_on (ex z) (λ a z. go_on (ey z) (λ b z. operate d s op v w a b z))
compares ex ey d s op v w e z = first (ex z)
  where
    last_of : (a : ℤ) (r : Did ℤ) → as_number (go_on r (λ b z. gives (relates (rel_of op) (first_in v w a) (second_in v w b)) z)) ≡ go_on r (λ b z. operate d s op v w a b z)
    last_of a (gives b z) = sym (e a b z)
    last_of a (halts h z) = refl

    first : (r : Did ℤ) → as_number (go_on r (λ a z. go_on (ey z) (λ b z. gives (relates (rel_of op) (first_in v w a) (second_in v w b)) z))) ≡ go_on r (λ a z. go_on (ey z) (λ b z. operate d s op v w a b z))
    first (gives a z) = last_of a (ey z)
    first (halts h z) = refl

compared_does : (c : Coded) (L : ℕ) (xs : Locals) (q s : Span) (op : Binary) (v w : TypeTree) (x y : Code) (sx sy : Span) (lx ly : Last) (nx ny : Needs) (ex ey : World → Did ℤ) → 1 ≤ nx.val → 1 ≤ ny.val → Grows lx → Grows ly → Rest c lx x → Rest c ly y
    → Does c L nx xs lx x ex → Does c L ny xs ly y ey → IsCompared c.program.unit s op v w
    → Does c L (of_two comparing v w nx ny) xs (last_of_two comparing lx ly) (binary_code c.program.unit q s comparing op v w x y sx sy lx (last_of_two comparing lx ly))
    (λ z. go_on (ex z) (λ a z. go_on (ey z) (λ b z. operate c.program.unit s op v w a b z)))
compared_does c L xs q s op v w x y sx sy lx ly nx ny ex ey onex oney gx gy rx ry dx dy e =
    does_as c L _ xs _ _ _ _ (compares ex ey c.program.unit s op v w e)
    (does_by_test c L _ xs q s (last_of_two comparing lx ly).test _ _ (omega (arith, onex)) (rest_binary c c.program.unit q s comparing op v w x y sx sy lx ly rx ry).test
    (λ b i t j m keep n ls z rest go lo room mt h next. let f = ly.val (lx.val b) in
    two_numbers c L nx.val ny.val xs lx.val ly.val x.val y.val ex ey sx sy (number_type v) (compared_in v w) (number_type w) (compared_in v w) onex oney dx.val dy.val _ b i t n ls z _ go lo room mt h
    (λ i' a u z' ls' h' k' ha hu. let upx = gx.val b in let upy = gy.val (lx.val b) in
    branch_ends c f i' t (t + 1) n s ls' z' (rel_of op) (first_in v w a) (second_in v w u) j m _ h'.0 ha hu
    (next f (relates (rel_of op) (first_in v w a) (second_in v w u)) z' ls' (omega (arith, upx, upy)) (omega arith) k'))))

-- ---- choices

-- to an arm of a choice, which leaves its value and jumps
arm_goes : (c : Coded) (L need : ℕ) (xs : Locals) (f : ℕ → ℕ) (val : ℕ → ℕ → List Item → List Item) (ev : World → Did ℤ) → DoesVal c L need xs f val ev
    → (a b t n e keep : ℕ) (q : Span) (ls : Locals) (w : World) (rest : List Item) (go : ℤ → World → Outcome) → L ≤ t → t + need ≤ length ls → Matches L xs ls → Keeps c b t → a < b → HasAt c b 0 (val b t (start (Jump e) q keep ∷ rest)) → Keeps c e (t + 1) → f b < e
    → ((v : ℤ) (w' : World) (ls' : Locals) → Kept t ls ls' → slice_get ls' t ≡ Some (Some v) → Ends c e 0 ls' n w' (go v w')) → Goes c a b ls n w (follow (ev w) n go)
arm_goes c L need xs f val ev d a b t n e keep q ls w rest go lo room mt kb lb h k lt next =
    let ls1 = unset_from t ls in let a1 = kept_unset t t ls (omega arith) in let long = a1.long in
    goes_ahead c a b t n ls w (follow (ev w) n go) kb lb
    (d b 0 t n ls1 w (start (Jump e) q keep ∷ rest) go lo (omega (arith, room, long)) (matches_kept L t xs ls ls1 lo mt a1) h
    (λ i' v w' ls' h' a' hv. let ls2 = unset_from (t + 1) ls' in
    jump_ends c (f b) i' e n q ls' w' (go v w') h'.0 (goes_ahead c (f b) e (t + 1) n ls' w' (go v w') k lt
    (next v w' ls2 (kept_trans t t ls ls1 ls2 (omega arith) a1 (kept_trans t t ls1 ls' ls2 (omega arith) a' (kept_unset t (t + 1) ls' (omega arith)))) (get-unset (t + 1) ls' t (omega arith) ∙ hv)))))

-- ---- values that are looked up in memory

-- a value, and what stands at its address
object_does : (c : Coded) (L need : ℕ) (xs : Locals) (s : Span) (ty : TypeTree) (f : ℕ → ℕ) (val : ℕ → ℕ → List Item → List Item) (ev : World → Did ℤ) → 1 ≤ need → DoesVal c L need xs f val ev
    → DoesVal c L need xs f (λ b t rest. val b t (values.object_code s ty t rest)) (λ w. go_on (ev w) (λ a w. object_at c.program s ty a w))
object_does c L need xs s ty f val ev one d b i t n ls w rest go lo room m h next =
    ends_on c b i n ls w (ev w) (λ a w. object_at c.program s ty a w) go
    (d b i t n ls w _ _ lo room m h
    (λ i' a w' ls' h' k ha. let long = k.long in
    object_ends c (f b) i' t n s ty ls' w' a rest go (omega (arith, room, long, one)) ha h'
    (λ i2 r w2 ls2 h2 k2 hr. next i2 r w2 ls2 h2 (kept_trans t t ls ls' ls2 (omega arith) k k2) hr)))

-- an address, and one so many bytes further on
further_does : (c : Coded) (L need : ℕ) (xs : Locals) (s : Span) (off : ℕ) (f : ℕ → ℕ) (val : ℕ → ℕ → List Item → List Item) (ev : World → Did ℤ) → 1 ≤ need → DoesVal c L need xs f val ev
    → DoesVal c L (max need (size.further_need off)) xs f (λ b t rest. val b t (values.further_code s off t rest)) (λ w. go_on (ev w) (λ a w. gives (further off a) w))
further_does c L need xs s off f val ev one d b i t n ls w rest go lo room m h next =
    ends_on c b i n ls w (ev w) (λ a w. gives (further off a) w) go
    (d b i t n ls w _ _ lo (omega (arith, room)) m h
    (λ i' a w' ls' h' k ha. let long = k.long in
    further_ends c (f b) i' t n s off ls' w' a rest _ (omega (arith, room, long)) ha h'
    (λ i2 ls2 h2 k2 hr. next i2 (further off a) w' ls2 h2 (kept_trans t t ls ls' ls2 (omega arith) k k2) hr)))

-- the same of something that gives the same
val_as : (c : Coded) (L need : ℕ) (xs : Locals) (f : ℕ → ℕ) (val : ℕ → ℕ → List Item → List Item) (ev fv : World → Did ℤ) → ((w : World) → ev w ≡ fv w) → DoesVal c L need xs f val ev → DoesVal c L need xs f val fv
val_as c L need xs f val ev fv e d b i t n ls w rest go lo room m h next = ends_as c b i n ls w _ _ (ap (λ r. follow r n go) (e w)) (d b i t n ls w rest go lo room m h next)

pub go_on_twice : {A B C : Type 0} (d : Did A) (f : A → World → Did B) (g : B → World → Did C) → go_on (go_on d f) g ≡ go_on d (λ a w. go_on (f a w) g)
go_on_twice (gives a w) f g = refl
go_on_twice (halts h w) f g = refl

-- ---- one line

-- a line that sets the local t
line_does : (c : Coded) (L : ℕ) (xs : Locals) (line : ℕ → trees.LineTree) (v : World → ℤ) → ((t : ℕ) (ls : Locals) (w : World) → machine.act c.program.oracle (line t).instr (line t).span ls w ≡ gives (slice_set ls t (Some (v w))) w)
    → DoesVal c L 1 xs (λ b. b) (λ b t rest. items.line (line t) ∷ rest) (λ w. gives (v w) w)
line_does c L xs line v e b i t n ls w rest go lo room m h next =
    still_ends c b i n ls (slice_set ls t (Some (v w))) w _ _ h.0 (e t ls w)
    (next (i + 1) (v w) w (slice_set ls t (Some (v w))) h.1 (kept_set t t ls (Some (v w)) (omega arith)) (get-set_same ls t (Some (v w)) (omega (arith, room))))

index_gives : {A : Type 0} (d : Did ℤ) (ey : World → Did ℤ) (f : ℤ → ℤ → World → Did ℤ) (g : ℤ → World → Did A)
    → go_on (go_on d (λ v w. go_on (ey w) (λ u w. f v u w))) g ≡ go_on d (λ v w. go_on (ey w) (λ u w. go_on (f v u w) g))
index_gives (gives v w) ey f g = go_on_twice (ey w) (λ u w. f v u w) g
index_gives (halts h w) ey f g = refl

index_one : (c : Coded) (x y : ExprTree) → 1 ≤ kind_place_need c.program.unit (index x y)
index_one c x y = let one = (ones c.program.unit x).val in let b = both_in_operation (value_type (type_of x)) (value_type (type_of y)) (needs c.program.unit x).val (needs c.program.unit y).val in omega (arith, one, b)

further_one : (c : Coded) (n off : ℕ) → 1 ≤ n → 1 ≤ max n (size.further_need off)
further_one c n off h = omega (arith, h)

lowered : (t : ℕ) (ls ms : Locals) → Kept (t + 1) ls ms → Kept t ls ms
lowered t ls ms k = record { same = λ x h. k.same x (omega arith); long = k.long }

-- the address of an element
index_does : (c : Coded) (L : ℕ) (xs : Locals) (q s : Span) (x y : ExprTree) → takes ops.Add (value_type (type_of x)) (value_type (type_of y)) ≡ true
    → Does c L (needs c.program.unit x) xs (last x) (code_of c.program.unit q x) (eval c.program xs x) → Does c L (needs c.program.unit y) xs (last y) (code_of c.program.unit q y) (eval c.program xs y)
    → DoesVal c L (kind_place_need c.program.unit (index x y)) xs (kind_last_place (index x y)) (kind_place_code c.program.unit q s (index x y)) (place_kind c.program xs s (index x y))
index_does c L xs q s x y ok dx dy =
    operation_does c L xs s ops.Add (code_of c.program.unit q x) (code_of c.program.unit q y) (span_of x) (span_of y) (last x) (last y).val (needs c.program.unit x).val (needs c.program.unit y).val (eval c.program xs x) (eval c.program xs y)
    (ones c.program.unit x).val (ones c.program.unit y).val dx.val dy.val refl (value_type (type_of x)) (value_type (type_of y)) ok

-- ---- all expressions

mutual
  pub does_of : (c : Coded) (L : ℕ) (xs : Locals) (q : Span) (e : ExprTree) → Fine L e → Does c L (needs c.program.unit e) xs (last e) (code_of c.program.unit q e) (eval c.program xs e)
  does_of c L xs q (node s t k) ok = kind_does c L xs q s t k ok

  pub kind_does : (c : Coded) (L : ℕ) (xs : Locals) (q s : Span) (ty : TypeTree) (k : ExprKindTree) → KindFine L k
      → Does c L (kind_needs c.program.unit k) xs (kind_last k) (kind_code c.program.unit q s ty k) (eval_kind c.program xs s ty k)
  kind_does c L xs q s ty (num v t) ok = does_by_value c L _ xs s _ _ _ (λ b. omega arith) (line_does c L xs (λ t. record { instr = trees.const t v; span = s }) (λ w. v) (λ t ls w. refl))
  kind_does c L xs q s ty (name n) ok = absurd ok
  kind_does c L xs q s ty (local x) ok = does_by_value c L _ xs s _ _ _ (λ b. omega arith)
      (λ b i t n ls w rest go lo room m h next.
      line_ends c b i n ls w _ (set_number s (slice_get xs x) w) (λ r. slice_set ls t (Some r)) go h.0 (ap (λ o. put_in t ls (set_number s o w)) (m.same x ok))
      (λ r w'. next (i + 1) r w' (slice_set ls t (Some r)) h.1 (kept_set t t ls (Some r) (omega arith)) (get-set_same ls t (Some r) (omega (arith, room)))))
  kind_does c L xs q s ty (global x) ok = does_by_value c L _ xs s _ _ _ (λ b. omega arith)
      (object_does c L 1 xs s ty (λ b. b) (λ b t rest. items.line (record { instr = trees.global t x; span = s }) ∷ rest) (λ w. gives (address_of c.program.oracle x w) w) (omega arith)
      (line_does c L xs (λ t. record { instr = trees.global t x; span = s }) (λ w. address_of c.program.oracle x w) (λ t ls w. refl)))
  kind_does c L xs q s ty (unary u.Plus x) ok = does_by_value c L _ xs s _ _ _ (grows x).val
      (number_does c L _ xs _ _ _ (span_of x) (number_of x) (number_type ty) (ones c.program.unit x).val (does_of c L xs q x ok).val)
  kind_does c L xs q s ty (unary u.Neg x) ok = does_by_value c L _ xs s _ _ _ (grows x).val
      (λ b i t n ls w rest go lo room m h next. let one = (ones c.program.unit x).val in
      let ls1 = slice_set ls t (Some (pos 0)) in let k1 = kept_set t t ls (Some (pos 0)) (omega arith) in let long1 = k1.long in
      const_ends c b i t n s ls w (pos 0) _ h.0
      (ends_as c b (i + 1) n ls1 w _ _ (ap (λ r. follow r n go) (go_on_twice (eval c.program xs x w) _ _))
      (ends_on c b (i + 1) n ls1 w _ (λ v w. gives (converted (number_type ty) (pos 0 -ℤ v)) w) go
      (number_does c L _ xs _ _ _ (span_of x) (number_of x) (number_type ty) one (does_of c L xs q x ok).val b (i + 1) (t + 1) n ls1 w _ _ (omega (arith, lo)) (omega (arith, room, long1)) (matches_kept L t xs ls ls1 lo m k1) h.1
      (λ i' v w' ls' h' k' hv. let long' = k'.long in
      sure_ends c ((last x).val b) i' t t (t + 1) n s Sub (number_type ty) ls' w' (pos 0) v (converted (number_type ty) (pos 0 -ℤ v)) rest _ (omega (arith, room, long1, long', one))
      (k'.same t (omega arith) ∙ get-set_same ls t (Some (pos 0)) (omega (arith, room, one))) hv refl h'
      (λ i2 ls2 h2 k2 hr. next i2 _ w' ls2 h2 (kept_trans t t ls ls1 ls2 (omega arith) k1 (kept_trans t t ls1 ls' ls2 (omega arith) (lowered t ls1 ls' k') k2)) hr))))))
  kind_does c L xs q s ty (unary u.Compl x) ok = does_by_value c L _ xs s _ _ _ (grows x).val
      (λ b i t n ls w rest go lo room m h next. let one = (ones c.program.unit x).val in
      ends_as c b i n ls w _ _ (ap (λ r. follow r n go) (go_on_twice (eval c.program xs x w) _ _))
      (ends_on c b i n ls w _ (λ v w. gives (converted (number_type ty) (pos 0 -ℤ pos 1 -ℤ v)) w) go
      (number_does c L _ xs _ _ _ (span_of x) (number_of x) (number_type ty) one (does_of c L xs q x ok).val b i t n ls w _ _ lo (omega (arith, room)) m h
      (λ i' v w' ls' h' k' hv. let long' = k'.long in
      with_number c ((last x).val b) i' t n s Xor (number_type ty) ls' w' v (converted (number_type ty) (negsuc 0)) (converted (number_type ty) (pos 0 -ℤ pos 1 -ℤ v)) rest _ (omega (arith, room, long')) hv
      (ap (λ r. gives r w') (complement_is (number_type ty) v)) h'
      (λ i2 ls2 h2 k2 hr. next i2 _ w' ls2 h2 (kept_trans t t ls ls' ls2 (omega arith) k' k2) hr)))))
  kind_does c L xs q s ty (unary u.Not x) ok =
      does_as c L _ xs _ _ _ _ (λ w. go_on_twice (eval c.program xs x w) (λ v w. gives (is_zero v) w) (λ z w. gives (truth z) w))
      (does_by_test c L _ xs q s _ _ (λ w. go_on (eval c.program xs x w) (λ v w. gives (is_zero v) w)) (ones c.program.unit x).test (kind_rest c c.program.unit q s ty (unary u.Not x)).test
      (λ b i t j m keep n ls w rest go lo room mt h next.
      ends_on c b i n ls w (eval c.program xs x w) (λ v w. gives (is_zero v) w) go
      ((does_of c L xs q x ok).test b i t m j keep n ls w rest (λ v w. go (is_zero v) w) lo room mt h (λ b' v w' ls' l' u' k'. next b' (is_zero v) w' ls' l' u' k'))))
  kind_does c L xs q s ty (binary ops.Mul x y) ok = does_by_value c L _ xs s _ _ _ (kind_grows (binary ops.Mul x y)).val
      (operation_does c L xs s ops.Mul (code_of c.program.unit q x) (code_of c.program.unit q y) (span_of x) (span_of y) (last x) (last y).val (needs c.program.unit x).val (needs c.program.unit y).val (eval c.program xs x) (eval c.program xs y)
      (ones c.program.unit x).val (ones c.program.unit y).val (does_of c L xs q x ok.1).val (does_of c L xs q y ok.2).val refl (value_type (type_of x)) (value_type (type_of y)) ok.0)
  kind_does c L xs q s ty (binary ops.Div x y) ok = does_by_value c L _ xs s _ _ _ (kind_grows (binary ops.Div x y)).val
      (operation_does c L xs s ops.Div (code_of c.program.unit q x) (code_of c.program.unit q y) (span_of x) (span_of y) (last x) (last y).val (needs c.program.unit x).val (needs c.program.unit y).val (eval c.program xs x) (eval c.program xs y)
      (ones c.program.unit x).val (ones c.program.unit y).val (does_of c L xs q x ok.1).val (does_of c L xs q y ok.2).val refl (value_type (type_of x)) (value_type (type_of y)) ok.0)
  kind_does c L xs q s ty (binary ops.Rem x y) ok = does_by_value c L _ xs s _ _ _ (kind_grows (binary ops.Rem x y)).val
      (operation_does c L xs s ops.Rem (code_of c.program.unit q x) (code_of c.program.unit q y) (span_of x) (span_of y) (last x) (last y).val (needs c.program.unit x).val (needs c.program.unit y).val (eval c.program xs x) (eval c.program xs y)
      (ones c.program.unit x).val (ones c.program.unit y).val (does_of c L xs q x ok.1).val (does_of c L xs q y ok.2).val refl (value_type (type_of x)) (value_type (type_of y)) ok.0)
  kind_does c L xs q s ty (binary ops.Add x y) ok = does_by_value c L _ xs s _ _ _ (kind_grows (binary ops.Add x y)).val
      (operation_does c L xs s ops.Add (code_of c.program.unit q x) (code_of c.program.unit q y) (span_of x) (span_of y) (last x) (last y).val (needs c.program.unit x).val (needs c.program.unit y).val (eval c.program xs x) (eval c.program xs y)
      (ones c.program.unit x).val (ones c.program.unit y).val (does_of c L xs q x ok.1).val (does_of c L xs q y ok.2).val refl (value_type (type_of x)) (value_type (type_of y)) ok.0)
  kind_does c L xs q s ty (binary ops.Sub x y) ok = does_by_value c L _ xs s _ _ _ (kind_grows (binary ops.Sub x y)).val
      (operation_does c L xs s ops.Sub (code_of c.program.unit q x) (code_of c.program.unit q y) (span_of x) (span_of y) (last x) (last y).val (needs c.program.unit x).val (needs c.program.unit y).val (eval c.program xs x) (eval c.program xs y)
      (ones c.program.unit x).val (ones c.program.unit y).val (does_of c L xs q x ok.1).val (does_of c L xs q y ok.2).val refl (value_type (type_of x)) (value_type (type_of y)) ok.0)
  kind_does c L xs q s ty (binary ops.Shl x y) ok = does_by_value c L _ xs s _ _ _ (kind_grows (binary ops.Shl x y)).val
      (operation_does c L xs s ops.Shl (code_of c.program.unit q x) (code_of c.program.unit q y) (span_of x) (span_of y) (last x) (last y).val (needs c.program.unit x).val (needs c.program.unit y).val (eval c.program xs x) (eval c.program xs y)
      (ones c.program.unit x).val (ones c.program.unit y).val (does_of c L xs q x ok.1).val (does_of c L xs q y ok.2).val refl (value_type (type_of x)) (value_type (type_of y)) ok.0)
  kind_does c L xs q s ty (binary ops.Shr x y) ok = does_by_value c L _ xs s _ _ _ (kind_grows (binary ops.Shr x y)).val
      (operation_does c L xs s ops.Shr (code_of c.program.unit q x) (code_of c.program.unit q y) (span_of x) (span_of y) (last x) (last y).val (needs c.program.unit x).val (needs c.program.unit y).val (eval c.program xs x) (eval c.program xs y)
      (ones c.program.unit x).val (ones c.program.unit y).val (does_of c L xs q x ok.1).val (does_of c L xs q y ok.2).val refl (value_type (type_of x)) (value_type (type_of y)) ok.0)
  kind_does c L xs q s ty (binary ops.Lt x y) ok = compared_does c L xs q s ops.Lt (value_type (type_of x)) (value_type (type_of y)) (code_of c.program.unit q x) (code_of c.program.unit q y) (span_of x) (span_of y) (last x) (last y) (needs c.program.unit x) (needs c.program.unit y) (eval c.program xs x) (eval c.program xs y)
      (ones c.program.unit x).val (ones c.program.unit y).val (grows x) (grows y) (rest_of c c.program.unit q x) (rest_of c c.program.unit q y) (does_of c L xs q x ok.1) (does_of c L xs q y ok.2) (λ a b z. refl)
  kind_does c L xs q s ty (binary ops.Gt x y) ok = compared_does c L xs q s ops.Gt (value_type (type_of x)) (value_type (type_of y)) (code_of c.program.unit q x) (code_of c.program.unit q y) (span_of x) (span_of y) (last x) (last y) (needs c.program.unit x) (needs c.program.unit y) (eval c.program xs x) (eval c.program xs y)
      (ones c.program.unit x).val (ones c.program.unit y).val (grows x) (grows y) (rest_of c c.program.unit q x) (rest_of c c.program.unit q y) (does_of c L xs q x ok.1) (does_of c L xs q y ok.2) (λ a b z. refl)
  kind_does c L xs q s ty (binary ops.Le x y) ok = compared_does c L xs q s ops.Le (value_type (type_of x)) (value_type (type_of y)) (code_of c.program.unit q x) (code_of c.program.unit q y) (span_of x) (span_of y) (last x) (last y) (needs c.program.unit x) (needs c.program.unit y) (eval c.program xs x) (eval c.program xs y)
      (ones c.program.unit x).val (ones c.program.unit y).val (grows x) (grows y) (rest_of c c.program.unit q x) (rest_of c c.program.unit q y) (does_of c L xs q x ok.1) (does_of c L xs q y ok.2) (λ a b z. refl)
  kind_does c L xs q s ty (binary ops.Ge x y) ok = compared_does c L xs q s ops.Ge (value_type (type_of x)) (value_type (type_of y)) (code_of c.program.unit q x) (code_of c.program.unit q y) (span_of x) (span_of y) (last x) (last y) (needs c.program.unit x) (needs c.program.unit y) (eval c.program xs x) (eval c.program xs y)
      (ones c.program.unit x).val (ones c.program.unit y).val (grows x) (grows y) (rest_of c c.program.unit q x) (rest_of c c.program.unit q y) (does_of c L xs q x ok.1) (does_of c L xs q y ok.2) (λ a b z. refl)
  kind_does c L xs q s ty (binary ops.Eq x y) ok = compared_does c L xs q s ops.Eq (value_type (type_of x)) (value_type (type_of y)) (code_of c.program.unit q x) (code_of c.program.unit q y) (span_of x) (span_of y) (last x) (last y) (needs c.program.unit x) (needs c.program.unit y) (eval c.program xs x) (eval c.program xs y)
      (ones c.program.unit x).val (ones c.program.unit y).val (grows x) (grows y) (rest_of c c.program.unit q x) (rest_of c c.program.unit q y) (does_of c L xs q x ok.1) (does_of c L xs q y ok.2) (λ a b z. refl)
  kind_does c L xs q s ty (binary ops.Ne x y) ok = compared_does c L xs q s ops.Ne (value_type (type_of x)) (value_type (type_of y)) (code_of c.program.unit q x) (code_of c.program.unit q y) (span_of x) (span_of y) (last x) (last y) (needs c.program.unit x) (needs c.program.unit y) (eval c.program xs x) (eval c.program xs y)
      (ones c.program.unit x).val (ones c.program.unit y).val (grows x) (grows y) (rest_of c c.program.unit q x) (rest_of c c.program.unit q y) (does_of c L xs q x ok.1) (does_of c L xs q y ok.2) (λ a b z. refl)
  kind_does c L xs q s ty (binary ops.BitAnd x y) ok = does_by_value c L _ xs s _ _ _ (kind_grows (binary ops.BitAnd x y)).val
      (operation_does c L xs s ops.BitAnd (code_of c.program.unit q x) (code_of c.program.unit q y) (span_of x) (span_of y) (last x) (last y).val (needs c.program.unit x).val (needs c.program.unit y).val (eval c.program xs x) (eval c.program xs y)
      (ones c.program.unit x).val (ones c.program.unit y).val (does_of c L xs q x ok.1).val (does_of c L xs q y ok.2).val refl (value_type (type_of x)) (value_type (type_of y)) ok.0)
  kind_does c L xs q s ty (binary ops.BitXor x y) ok = does_by_value c L _ xs s _ _ _ (kind_grows (binary ops.BitXor x y)).val
      (operation_does c L xs s ops.BitXor (code_of c.program.unit q x) (code_of c.program.unit q y) (span_of x) (span_of y) (last x) (last y).val (needs c.program.unit x).val (needs c.program.unit y).val (eval c.program xs x) (eval c.program xs y)
      (ones c.program.unit x).val (ones c.program.unit y).val (does_of c L xs q x ok.1).val (does_of c L xs q y ok.2).val refl (value_type (type_of x)) (value_type (type_of y)) ok.0)
  kind_does c L xs q s ty (binary ops.BitOr x y) ok = does_by_value c L _ xs s _ _ _ (kind_grows (binary ops.BitOr x y)).val
      (operation_does c L xs s ops.BitOr (code_of c.program.unit q x) (code_of c.program.unit q y) (span_of x) (span_of y) (last x) (last y).val (needs c.program.unit x).val (needs c.program.unit y).val (eval c.program xs x) (eval c.program xs y)
      (ones c.program.unit x).val (ones c.program.unit y).val (does_of c L xs q x ok.1).val (does_of c L xs q y ok.2).val refl (value_type (type_of x)) (value_type (type_of y)) ok.0)
  kind_does c L xs q s ty (binary ops.And x y) ok = both_does c L xs q s ops.And (value_type (type_of x)) (value_type (type_of y)) (code_of c.program.unit q x) (code_of c.program.unit q y) (span_of x) (span_of y) (last x) (last y) (needs c.program.unit x) (needs c.program.unit y) (eval c.program xs x) (eval c.program xs y)
      (ones c.program.unit x).test (grows x) (grows y) (rest_of c c.program.unit q x) (rest_of c c.program.unit q y) (does_of c L xs q x ok.1) (does_of c L xs q y ok.2)
  kind_does c L xs q s ty (binary ops.Or x y) ok = either_does c L xs q s ops.Or (value_type (type_of x)) (value_type (type_of y)) (code_of c.program.unit q x) (code_of c.program.unit q y) (span_of x) (span_of y) (last x) (last y) (needs c.program.unit x) (needs c.program.unit y) (eval c.program xs x) (eval c.program xs y)
      (ones c.program.unit x).test (grows x) (grows y) (rest_of c c.program.unit q x) (rest_of c c.program.unit q y) (does_of c L xs q x ok.1) (does_of c L xs q y ok.2)
  kind_does c L xs q s ty (cond e x y) ok = does_by_value c L _ xs s _ _ _ (kind_grows (cond e x y)).val
      (λ b i t n ls w rest go lo room m h next. let d = c.program.unit in
      let j = (last e).test b + 1 in let k = (last x).val j + 1 in let f = (last y).val k + 1 in
      let one_x = (ones d x).val in let one_y = (ones d y).val in let up_x = (grows x).val j in let up_y = (grows y).val k in
      let r = (rest_of c d q e).test b i t j k t _ h in
      let rx = after_number c (last x).val (code_of d q x).val (span_of x) (number_of x) (number_type ty) (rest_of c d q x).val j 0 t _ r.1 in
      let ry = after_number c (last y).val (code_of d q y).val (span_of y) (number_of y) (number_type ty) (rest_of c d q y).val k 0 t _ rx.1.2 in
      ends_on c b i n ls w (eval c.program xs e w) _ go
      ((does_of c L xs q e ok.0).test b i t j k t n ls w _ _ lo (omega (arith, room)) m h
      (λ b' v w' ls' l' u' k'. let long = k'.long in
      goes_either c b' j k n ls' w' (λ z. follow z n go)
      (go_on (eval c.program xs x w') (λ v w. gives (as_type (number_of x) (number_type ty) v) w)) (go_on (eval c.program xs y w') (λ v w. gives (as_type (number_of y) (number_type ty) v) w))
      (arm_goes c L _ xs _ _ _ (number_does c L _ xs _ _ _ (span_of x) (number_of x) (number_type ty) one_x (does_of c L xs q x ok.1).val) b' j t n f t q ls' w' _ go lo (omega (arith, room, long)) (matches_kept L t xs ls ls' lo m k') r.0 (omega (arith, u')) r.1 ry.1.1 (omega (arith, up_y))
      (λ v w2 ls2 k2 hv. next 0 v w2 ls2 ry.1.2 (kept_trans t t ls ls' ls2 (omega arith) k' k2) hv))
      (arm_goes c L _ xs _ _ _ (number_does c L _ xs _ _ _ (span_of y) (number_of y) (number_type ty) one_y (does_of c L xs q y ok.2).val) b' k t n f (t + 1) q ls' w' _ go lo (omega (arith, room, long)) (matches_kept L t xs ls ls' lo m k') rx.1.1 (omega (arith, u', up_x)) rx.1.2 ry.1.1 (omega arith)
      (λ v w2 ls2 k2 hv. next 0 v w2 ls2 ry.1.2 (kept_trans t t ls ls' ls2 (omega arith) k' k2) hv))
      (is_zero v))))
  kind_does c L xs q s ty (cast w x) ok = does_by_value c L _ xs s _ _ _ (grows x).val
      (number_does c L _ xs _ _ _ (span_of x) (number_of x) (number_type ty) (ones c.program.unit x).val (does_of c L xs q x ok).val)
  kind_does c L xs q s ty (size_of w) ok = does_by_value c L _ xs s _ _ _ (λ b. omega arith)
      (line_does c L xs (λ t. record { instr = trees.const t (pos (size_in c.program.unit w)); span = s }) (λ z. pos (size_in c.program.unit w)) (λ t ls z. refl))
  kind_does c L xs q s ty (size_of_expr x) ok = does_by_value c L _ xs s _ _ _ (λ b. omega arith)
      (line_does c L xs (λ t. record { instr = trees.const t (pos (size_in c.program.unit (type_of x))); span = s }) (λ z. pos (size_in c.program.unit (type_of x))) (λ t ls z. refl))
  kind_does c L xs q s ty (index x y) ok = does_by_value c L _ xs s _ _ _ (kind_grows (index x y)).val
      (val_as c L _ xs _ _ _ _ (λ w. index_gives (eval c.program xs x w) (eval c.program xs y) _ _)
      (object_does c L _ xs s ty _ _ _ (index_one c x y) (index_does c L xs q s x y ok.0 (does_of c L xs q x ok.1) (does_of c L xs q y ok.2))))
  kind_does c L xs q s ty (member x m) ok = does_by_value c L _ xs s _ _ _ (place_grows x)
      (val_as c L _ xs _ _ _ _ (λ w. go_on_twice (place c.program xs x w) _ _)
      (object_does c L _ xs s ty _ _ _ (further_one c (place_need c.program.unit x) (offset_in c.program.unit (type_of x) m) (place_ones c.program.unit x))
      (further_does c L _ xs s (offset_in c.program.unit (type_of x) m) _ _ _ (place_ones c.program.unit x) (place_does c L xs q x ok))))
  kind_does c L xs q s ty (arrow x m) ok = does_by_value c L _ xs s _ _ _ (grows x).val
      (val_as c L _ xs _ _ _ _ (λ w. go_on_twice (eval c.program xs x w) _ _)
      (object_does c L _ xs s ty _ _ _ (further_one c (needs c.program.unit x).val (offset_in c.program.unit (target (value_type (type_of x))) m) (ones c.program.unit x).val)
      (further_does c L _ xs s (offset_in c.program.unit (target (value_type (type_of x))) m) _ _ _ (ones c.program.unit x).val (does_of c L xs q x ok).val)))
  kind_does c L xs q s ty (deref x) ok = does_by_value c L _ xs s _ _ _ (grows x).val (object_does c L _ xs s ty _ _ _ (ones c.program.unit x).val (does_of c L xs q x ok).val)
  kind_does c L xs q s ty (address x) ok = does_by_value c L _ xs s _ _ _ (place_grows x) (place_does c L xs q x ok)

  pub place_does : (c : Coded) (L : ℕ) (xs : Locals) (q : Span) (e : ExprTree) → PlaceFine L e → DoesVal c L (place_need c.program.unit e) xs (last_place e) (place_code c.program.unit q e) (place c.program xs e)
  place_does c L xs q (node s t k) ok = kind_place_does c L xs q s k ok

  pub kind_place_does : (c : Coded) (L : ℕ) (xs : Locals) (q s : Span) (k : ExprKindTree) → KindPlaceFine L k
      → DoesVal c L (kind_place_need c.program.unit k) xs (kind_last_place k) (kind_place_code c.program.unit q s k) (place_kind c.program xs s k)
  kind_place_does c L xs q s (global x) ok = line_does c L xs (λ t. record { instr = trees.global t x; span = s }) (λ w. address_of c.program.oracle x w) (λ t ls w. refl)
  kind_place_does c L xs q s (index x y) ok = index_does c L xs q s x y ok.0 (does_of c L xs q x ok.1) (does_of c L xs q y ok.2)
  kind_place_does c L xs q s (member x m) ok = further_does c L _ xs s (offset_in c.program.unit (type_of x) m) _ _ _ (place_ones c.program.unit x) (place_does c L xs q x ok)
  kind_place_does c L xs q s (arrow x m) ok = further_does c L _ xs s (offset_in c.program.unit (target (value_type (type_of x))) m) _ _ _ (ones c.program.unit x).val (does_of c L xs q x ok).val
  kind_place_does c L xs q s (deref x) ok = (does_of c L xs q x ok).val
  kind_place_does c L xs q s (num v n) ok = absurd ok
  kind_place_does c L xs q s (name n) ok = absurd ok
  kind_place_does c L xs q s (local x) ok = absurd ok
  kind_place_does c L xs q s (unary op x) ok = absurd ok
  kind_place_does c L xs q s (binary op x y) ok = absurd ok
  kind_place_does c L xs q s (cond e x y) ok = absurd ok
  kind_place_does c L xs q s (cast w x) ok = absurd ok
  kind_place_does c L xs q s (size_of w) ok = absurd ok
  kind_place_does c L xs q s (size_of_expr x) ok = absurd ok
  kind_place_does c L xs q s (address x) ok = absurd ok
