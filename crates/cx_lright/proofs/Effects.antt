-- The code of an effect does what the effect does.
use Rattle.std.proofs.Common.{ℕ, ℤ, pos, ◌≡◌, ◌+◌, ◌<◌, ◌≤◌, ◌*ℤ◌, Bool, true, false, List, [], ◌∷◌, length, Option, Some, None, refl, sym, ap, ◌∙◌, subst, arith}
use Rattle.std.specs.Prelude.{slice_get, slice_set, is_some, if◌then◌else◌}
use Rattle.std.proofs.lemmas.List.{length-set}
use Rattle.cx_base.specs.declared.number.CInt.{CInt}
use Rattle.cx_base.specs.declared.span.Span.{Span}
use Rattle.cx_base.specs.declared.token.Token.{Token}
use Rattle.cx_cconst.specs.Constants.{number_type, converted}
use Rattle.cx_cmean.specs.Effects.{called, taken_as, pointee_of, result_as, right, Left, to_local, to_memory, local_of, left_at, left, read_left, write_left, updated, operand_of, done, all_done}
use Rattle.cx_cmean.specs.Expressions.{object_at, eval, place}
use Rattle.cx_cmean.specs.Numbers.{value_type, number_of, is_same, as_type, applied_in, right_in, on_integers, operate, moved, moved_back}
use Rattle.cx_cmean.specs.Program.{unit_in, function_of}
use Rattle.cx_ctree.specs.Conversions.{unsigned_long}
use Rattle.cx_ctree.specs.Exprs.{ExprTree, span_of, type_of, RhsTree, value, call, EffectTree, set, update, call_alone, value_alone}
use Rattle.cx_ctree.specs.Types.{TypeTree, void, int, pointer, array, tag}
use Rattle.cx_ctree.specs.declared.expr.Binary.{Binary}
use Rattle.cx_ctree.specs.declared.expr.Binary.TheVariants as ops
use Rattle.cx_goto.specs.Machine.{Outcome, follow, put_in}
use Rattle.cx_goto.specs.Operations as code
use Rattle.cx_goto.specs.Trees as trees
use Rattle.cx_goto.specs.declared.code.Op.TheVariants.{Mul}
use Rattle.cx_lcode.specs.Effects.{right_code, left_at_code, read_code, write_code, updates, effect_code}
use Rattle.cx_lcode.specs.Items.{Item, does, converts}
use Rattle.cx_lcode.specs.Needs.{right_need, left_at_need, updated_need, effect_need, effects_need}
use Rattle.cx_lcode.specs.Places as places
use Rattle.cx_lcode.specs.Places.{computing, sort_of, last, right_last, left_at_last, effect_last}
use Rattle.cx_lcode.specs.Statements.{effects_code}
use Rattle.cx_lcode.specs.Values.{op_of}
use Rattle.cx_lright.proofs.Afters.{in_setting}
use Rattle.cx_lright.proofs.Calls.{Given, call_does}
use Rattle.cx_lright.proofs.Does.{number_does}
use Rattle.cx_lright.proofs.Lines as lines
use Rattle.cx_lright.proofs.Lines.{const_ends, converts_ends, sure_ends}
use Rattle.cx_lright.proofs.Locals.{Matches, Kept, kept_refl, kept_trans, matches_kept, matches_set, kept_set, get-set_same, get-set_other, get-set_below}
use Rattle.cx_lright.proofs.Machine.{Coded, HasAt, Ends, ends_as, ends_on, line_ends, still_ends}
use Rattle.cx_lright.proofs.Needing.{ones}
use Rattle.cx_lright.proofs.Operators.{by_moves}
use Rattle.cx_lright.proofs.Sums.{sum_right, difference_right}
use Rattle.cx_lright.proofs.Values.{does_of, place_does, go_on_twice}
use Rattle.cx_lright.specs.Fine.{is_scalar, moves, changes, RightFine, LeftAtFine, EffectFine, EffectsFine}
use Rattle.cx_lright.specs.Right.{GivesNumbers}
use Rattle.cx_world.specs.Access as access
use Rattle.cx_world.specs.World.{World, gives, go_on, Locals, set_number, local_value, others}

lowered : (t : ℕ) (ls ms : Locals) → Kept (t + 1) ls ms → Kept t ls ms
lowered t ls ms k = record { same = λ x h. k.same x (omega arith); long = k.long }

-- ---- right sides

pub right_does : (c : Coded) (L : ℕ) (xs : Locals) (q : Span) (t : TypeTree) (r : RhsTree) → RightFine c.program.unit L r → GivesNumbers c.program
    → (b i n : ℕ) (ls : Locals) (w : World) (rest : List Item) (go : ℤ → World → Outcome) → L + right_need c.program.unit r ≤ length ls → Matches L xs ls → HasAt c b i (right_code c.program.unit q t r b L rest)
    → ((i' : ℕ) (v : ℤ) (w' : World) (ls' : Locals) → HasAt c (right_last r b) i' rest → Kept L ls ls' → slice_get ls' L ≡ Some (Some v) → Ends c (right_last r b) i' ls' n w' (go v w'))
    → Ends c b i ls n w (follow (right c.program xs t r w) n go)
right_does c L xs q t (value e) fine g b i n ls w rest go room m h next =
    number_does c L _ xs _ _ _ (span_of e) (number_of e) (number_type t) (ones c.program.unit e).val (does_of c L xs q e fine).val b i L n ls w rest go (omega arith) room m h next
right_does c L xs q t (call k cast) fine g b i n ls w rest go room m h next =
    let d = c.program.unit in let tk = taken_as cast t in let f = function_of d k.name in
    let first = converts k.span (number_type f.result) (number_type tk) L (converts k.span (number_type tk) (number_type t) L rest) in
    ends_on c b i n ls w (called c.program xs k (pointee_of tk) w) (λ v w. result_as f.result tk t v w) go
    (call_does c L xs q k (pointee_of tk) fine.0 g b i n ls w first (λ v w. follow (result_as f.result tk t v w) n go) room m h
    (λ i1 a w1 ls1 h1 k1 ga some. by_given i1 a w1 ls1 h1 k1 ga (some fine.1)))
  where
    by_given : (i1 : ℕ) (a : Option ℤ) (w1 : World) (ls1 : Locals)
        → HasAt c (right_last (call k cast) b) i1 (converts k.span (number_type (function_of c.program.unit k.name).result) (number_type (taken_as cast t)) L (converts k.span (number_type (taken_as cast t)) (number_type t) L rest))
        → Kept L ls ls1 → Given ls1 L a → is_some a ≡ true → Ends c (right_last (call k cast) b) i1 ls1 n w1 (follow (result_as (function_of c.program.unit k.name).result (taken_as cast t) t a w1) n go)
    by_given i1 None w1 ls1 h1 k1 ga e = absurd (cc e)
    by_given i1 (Some v) w1 ls1 h1 k1 ga e =
        let tk = taken_as cast t in let f = function_of c.program.unit k.name in let long1 = k1.long in
        converts_ends c (right_last (call k cast) b) i1 L n k.span (number_type f.result) (number_type tk) ls1 w1 v (converts k.span (number_type tk) (number_type t) L rest) _ (omega (arith, room, long1)) ga h1
        (λ i2 ls2 h2 k2 hv2. let long2 = k2.long in
        converts_ends c (right_last (call k cast) b) i2 L n k.span (number_type tk) (number_type t) ls2 w1 _ rest _ (omega (arith, room, long1, long2)) hv2 h2
        (λ i3 ls3 h3 k3 hv3. next i3 _ w1 ls3 h3 (kept_trans L L ls ls1 ls3 (omega arith) k1 (kept_trans L L ls1 ls2 ls3 (omega arith) k2 k3)) hv3))

-- ---- left sides

-- where a left side is, by the code
abbrev Placed : Locals → ℕ → Option ℕ → Left → Type 0
Placed ls L (Some x) to = to ≡ to_local x
Placed ls L None to = (a : ℤ) × (to ≡ to_memory a) × (slice_get ls (L + 1) ≡ Some (Some a))

placed_still : (L : ℕ) (ls ms : Locals) (o : Option ℕ) (to : Left) → Kept (L + 2) ls ms → Placed ls L o to → Placed ms L o to
placed_still L ls ms (Some x) to k p = p
placed_still L ls ms None to k p = (p.0, p.1, k.same (L + 1) (omega arith) ∙ p.2)

left_does : (c : Coded) (L : ℕ) (xs : Locals) (q : Span) (l : ExprTree) (o : Option ℕ) → LeftAtFine L l o
    → (b i n : ℕ) (ls : Locals) (w : World) (rest : List Item) (go : Left → World → Outcome) → L + left_at_need c.program.unit l o ≤ length ls → Matches L xs ls → HasAt c b i (left_at_code c.program.unit q l o b L rest)
    → ((i' : ℕ) (to : Left) (w' : World) (ls' : Locals) → HasAt c (left_at_last l o b) i' rest → Kept (L + 1) ls ls' → Placed ls' L o to → Ends c (left_at_last l o b) i' ls' n w' (go to w'))
    → Ends c b i ls n w (follow (left_at c.program xs l o w) n go)
left_does c L xs q l (Some x) fine b i n ls w rest go room m h next = next i (to_local x) w ls h (kept_refl (L + 1) ls) refl
left_does c L xs q l None fine b i n ls w rest go room m h next =
    ends_on c b i n ls w (place c.program xs l w) (λ a w. gives (to_memory a) w) go
    (place_does c L xs q l fine.0 b i (L + 1) n ls w rest (λ a w. go (to_memory a) w) (omega arith) (omega (arith, room)) m h
    (λ i' a w' ls' h' k' ha. next i' (to_memory a) w' ls' h' k' (a, refl, ha)))

-- the number of the local t is put there
write_does : (c : Coded) (L : ℕ) (xs : Locals) (l : ExprTree) (o : Option ℕ) → LeftAtFine L l o
    → (b i t n : ℕ) (ls : Locals) (w : World) (to : Left) (v : ℤ) (rest : List Item) (go : Locals → World → Outcome) → L ≤ length xs → L < length ls → Matches L xs ls → Placed ls L o to → slice_get ls t ≡ Some (Some v)
    → HasAt c b i (write_code l o L t ∷ rest)
    → ((i' : ℕ) (ys : Locals) (w' : World) (ls' : Locals) → HasAt c b i' rest → Matches L ys ls' → length ys ≡ length xs → length ls' ≡ length ls → Ends c b i' ls' n w' (go ys w'))
    → Ends c b i ls n w (follow (write_left c.program xs l to v w) n go)
write_does c L xs l (Some x) fine b i t n ls w to v rest go wide room m p hv h next =
    subst (λ to. Ends c b i ls n w (follow (write_left c.program xs l to v w) n go)) (sym p)
    (still_ends c b i n ls (slice_set ls x (Some v)) w _ _ h.0 (ap (λ o. put_in x ls (set_number (span_of l) o w)) hv)
    (next (i + 1) (slice_set xs x (Some v)) w (slice_set ls x (Some v)) h.1 (matches_set L x xs ls (Some v) (omega (arith, fine, wide)) (omega (arith, fine, room)) m) (length-set xs x (Some v)) (length-set ls x (Some v))))
write_does c L xs l None fine b i t n ls w to v rest go wide room m p hv h next =
    let s = span_of l in let k = number_type (type_of l) in let a = p.0 in let oracle = c.program.oracle in
    subst (λ to. Ends c b i ls n w (follow (write_left c.program xs l to v w) n go)) (sym p.1)
    (ends_on c b i n ls w (access.store oracle s k a v w) (λ u w. gives xs w) go
    (line_ends c b i n ls w _ (access.store oracle s k a v w) (λ u. ls) (λ u w. go xs w) h.0
    (ap (λ o. go_on (others oracle w) (λ u w. go_on (set_number s o w) (λ a w. go_on (local_value s t ls w) (λ v w. go_on (access.store_now s k a v w) (λ u w. gives ls w))))) p.2
    ∙ ap (λ o. go_on (others oracle w) (λ u w. go_on (set_number s o w) (λ v w. go_on (access.store_now s k a v w) (λ u w. gives ls w)))) hv
    ∙ sym (go_on_twice (others oracle w) (λ u w. access.store_now s k a v w) (λ u w. gives ls w)))
    (λ u w'. next (i + 1) xs w' ls h.1 m refl refl)))

-- what stands there is read into the local t, which is after those that serve the place
read_does : (c : Coded) (L : ℕ) (xs : Locals) (l : ExprTree) (o : Option ℕ) → LeftAtFine L l o
    → (b i n : ℕ) (ls : Locals) (w : World) (to : Left) (rest : List Item) (go : ℤ → World → Outcome) → L + 2 < length ls → Matches L xs ls → Placed ls L o to → HasAt c b i (read_code l o L (L + 2) ∷ rest)
    → ((v : ℤ) (w' : World) (ls' : Locals) → HasAt c b (i + 1) rest → Kept (L + 2) ls ls' → slice_get ls' (L + 2) ≡ Some (Some v) → Ends c b (i + 1) ls' n w' (go v w'))
    → Ends c b i ls n w (follow (read_left c.program xs l to w) n go)
read_does c L xs l (Some x) fine b i n ls w to rest go room m p h next =
    subst (λ to. Ends c b i ls n w (follow (read_left c.program xs l to w) n go)) (sym p)
    (line_ends c b i n ls w _ (set_number (span_of l) (slice_get xs x) w) (λ r. slice_set ls (L + 2) (Some r)) go h.0 (ap (λ o. put_in (L + 2) ls (set_number (span_of l) o w)) (m.same x fine))
    (λ r w'. next r w' (slice_set ls (L + 2) (Some r)) h.1 (kept_set (L + 2) (L + 2) ls (Some r) (omega arith)) (get-set_same ls (L + 2) (Some r) room)))
read_does c L xs l None fine b i n ls w to rest go room m p h next =
    let s = span_of l in let k = number_type (type_of l) in let a = p.0 in let oracle = c.program.oracle in
    subst (λ to. Ends c b i ls n w (follow (read_left c.program xs l to w) n go)) (sym p.1)
    (ends_as c b i n ls w _ _ (ap (λ r. follow r n go) (scalar_is (type_of l) fine.1))
    (line_ends c b i n ls w _ (access.load oracle s k a w) (λ r. slice_set ls (L + 2) (Some r)) go h.0
    (ap (λ o. put_in (L + 2) ls (go_on (others oracle w) (λ u w. go_on (set_number s o w) (λ a w. access.load_now s k a w)))) p.2)
    (λ r w'. next r w' (slice_set ls (L + 2) (Some r)) h.1 (kept_set (L + 2) (L + 2) ls (Some r) (omega arith)) (get-set_same ls (L + 2) (Some r) room))))
  where
    scalar_is : (t : TypeTree) → is_scalar t ≡ true → access.load c.program.oracle (span_of l) (number_type t) p.0 w ≡ object_at c.program (span_of l) t p.0 w
    scalar_is (int t) e = refl
    scalar_is (pointer t) e = refl
    scalar_is void e = absurd (cc e)
    scalar_is (array t n) e = absurd (cc e)
    scalar_is (tag t) e = absurd (cc e)

-- ---- changes

-- an operator on two integers is the operator of the code on the converted numbers
integers_is : (s : Span) (op : Binary) (t u : CInt) (x y : ℤ) (w : World) → sort_of op ≡ computing
    → code.operate s (op_of op) (applied_in op t u) (as_type t (applied_in op t u) x) (as_type u (right_in op t u) y) w ≡ on_integers s op t u x y w
integers_is s ops.Mul t u x y w e = refl
integers_is s ops.Div t u x y w e = refl
integers_is s ops.Rem t u x y w e = refl
integers_is s ops.Add t u x y w e = refl
integers_is s ops.Sub t u x y w e = refl
integers_is s ops.Shl t u x y w e = refl
integers_is s ops.Shr t u x y w e = refl
integers_is s ops.Lt t u x y w e = absurd (cc e)
integers_is s ops.Gt t u x y w e = absurd (cc e)
integers_is s ops.Le t u x y w e = absurd (cc e)
integers_is s ops.Ge t u x y w e = absurd (cc e)
integers_is s ops.Eq t u x y w e = absurd (cc e)
integers_is s ops.Ne t u x y w e = absurd (cc e)
integers_is s ops.BitAnd t u x y w e = refl
integers_is s ops.BitXor t u x y w e = refl
integers_is s ops.BitOr t u x y w e = refl
integers_is s ops.And t u x y w e = absurd (cc e)
integers_is s ops.Or t u x y w e = absurd (cc e)

-- the local t is converted, and no other local changes
converts_alone : (c : Coded) (b i t n : ℕ) (s : Span) (from to : CInt) (ls : Locals) (w : World) (v : ℤ) (rest : List Item) (o : Outcome) → t < length ls → slice_get ls t ≡ Some (Some v) → HasAt c b i (converts s from to t rest)
    → ((i' : ℕ) (ls' : Locals) → HasAt c b i' rest → Kept t ls ls' → ((x : ℕ) → t < x → slice_get ls' x ≡ slice_get ls x) → slice_get ls' t ≡ Some (Some (as_type from to v)) → Ends c b i' ls' n w o) → Ends c b i ls n w o
converts_alone c b i t n s from to ls w v rest o room hv h next = by_same (is_same from to) h next
  where
    by_same : (z : Bool) → HasAt c b i (if z then rest else does s (trees.conv t to) ∷ rest)
        → ((i' : ℕ) (ls' : Locals) → HasAt c b i' rest → Kept t ls ls' → ((x : ℕ) → t < x → slice_get ls' x ≡ slice_get ls x) → slice_get ls' t ≡ Some (Some (if z then v else converted to v)) → Ends c b i' ls' n w o) → Ends c b i ls n w o
    by_same true h next = next i ls h (kept_refl t ls) (λ x l. refl) hv
    by_same false h next =
        let r = converted to v in
        still_ends c b i n ls (slice_set ls t (Some r)) w _ o h.0 (ap (λ o. put_in t ls (go_on (set_number s o w) (λ v w. gives (converted to v) w))) hv)
        (next (i + 1) (slice_set ls t (Some r)) h.1 (kept_set t t ls (Some r) (omega arith)) (λ x l. get-set_below ls t x (Some r) l) (get-set_same ls t (Some r) room))

-- what goes on where the local L + 2 has the changed number: those below L and the local after L are as they were
abbrev Changed : (c : Coded) (b n L : ℕ) (ls : Locals) (rest : List Item) (go : ℤ → World → Outcome) → Type 0
Changed c b n L ls rest go =
    (i' : ℕ) (v : ℤ) (w' : World) (ls' : Locals) → HasAt c b i' rest → Kept L ls ls' → slice_get ls' (L + 1) ≡ slice_get ls (L + 1) → slice_get ls' (L + 2) ≡ Some (Some v) → Ends c b i' ls' n w' (go v w')

change_integer : (c : Coded) (L : ℕ) (s : Span) (op : Binary) (t u : CInt) → sort_of op ≡ computing
    → (b i n : ℕ) (ls : Locals) (w : World) (x y : ℤ) (rest : List Item) (go : ℤ → World → Outcome) → L + 2 < length ls → slice_get ls (L + 2) ≡ Some (Some x) → slice_get ls L ≡ Some (Some y)
    → HasAt c b i (updates c.program.unit s op (int t) (int u) L rest) → Changed c b n L ls rest go → Ends c b i ls n w (follow (updated c.program s op (int t) (int u) x y w) n go)
change_integer c L s op t u e b i n ls w x y rest go room hx hy h next =
    let k = applied_in op t u in let r = right_in op t u in let last = converts s k t (L + 2) rest in let bin = does s (trees.bin (L + 2) (op_of op) k (L + 2) L) ∷ last in
    converts_alone c b i (L + 2) n s t k ls w x (converts s u r L bin) _ room hx h
    (λ i1 ls1 h1 k1 o1 hx1. let long1 = k1.long in
    converts_alone c b i1 L n s u r ls1 w y bin _ (omega (arith, room, long1)) (k1.same L (omega arith) ∙ hy) h1
    (λ i2 ls2 h2 k2 o2 hy2. let long2 = k2.long in
    ends_as c b i2 n ls2 w _ _ (ap (λ d. follow (go_on d (λ v w. gives (as_type k t v) w)) n go) (integers_is s op t u x y w e))
    (ends_on c b i2 n ls2 w (code.operate s (op_of op) k (as_type t k x) (as_type u r y) w) (λ v w. gives (as_type k t v) w) go
    (lines.bin_ends c b i2 (L + 2) (L + 2) L n s (op_of op) k ls2 w (as_type t k x) (as_type u r y) last (λ v w. go (as_type k t v) w) (omega (arith, room, long1, long2)) (o2 (L + 2) (omega arith) ∙ hx1) hy2 h2
    (λ v w3 ls3 h3 k3 hv3. let long3 = k3.long in
    converts_ends c b (i2 + 1) (L + 2) n s k t ls3 w3 v rest _ (omega (arith, room, long1, long2, long3)) hv3 h3
    (λ i4 ls4 h4 k4 hv4. next i4 (as_type k t v) w3 ls4 h4
    (kept_trans L L ls ls2 ls4 (omega arith) (kept_trans L L ls ls1 ls2 (omega arith) (far L ls ls1 k1) k2) (far L ls2 ls4 (kept_trans (L + 2) (L + 2) ls2 ls3 ls4 (omega arith) k3 k4)))
    (k4.same (L + 1) (omega arith) ∙ k3.same (L + 1) (omega arith) ∙ o2 (L + 1) (omega arith) ∙ k1.same (L + 1) (omega arith)) hv4))))))
  where
    far : (L : ℕ) (ls ms : Locals) → Kept (L + 2) ls ms → Kept L ls ms
    far L ls ms k = record { same = λ x h. k.same x (omega arith); long = k.long }

change_pointer : (c : Coded) (L : ℕ) (s : Span) (op : Binary) (t : TypeTree) (u : CInt) → moves op ≡ true
    → (b i n : ℕ) (ls : Locals) (w : World) (x y : ℤ) (rest : List Item) (go : ℤ → World → Outcome) → L + 3 < length ls → slice_get ls (L + 2) ≡ Some (Some x) → slice_get ls L ≡ Some (Some y)
    → HasAt c b i (updates c.program.unit s op (pointer t) (int u) L rest) → Changed c b n L ls rest go → Ends c b i ls n w (follow (updated c.program s op (pointer t) (int u) x y w) n go)
change_pointer c L s op t u e b i n ls w x y rest go room hx hy h next =
    let size = unit_in c.program.unit t in let y1 = as_type u unsigned_long y in let y2 = converted unsigned_long (y1 *ℤ pos size) in
    let bin = does s (trees.bin (L + 2) (op_of op) unsigned_long (L + 2) L) ∷ rest in let mul = does s (trees.bin L Mul unsigned_long L (L + 3)) ∷ bin in
    converts_alone c b i L n s u unsigned_long ls w y (does s (trees.const (L + 3) (pos size)) ∷ mul) _ (omega (arith, room)) hy h
    (λ i1 ls1 h1 k1 o1 hy1. let long1 = k1.long in
    let ls2 = slice_set ls1 (L + 3) (Some (pos size)) in let long2 = length-set ls1 (L + 3) (Some (pos size)) in
    const_ends c b i1 (L + 3) n s ls1 w (pos size) _ h1.0
    (let ls3 = slice_set ls2 L (Some y2) in let long3 = length-set ls2 L (Some y2) in
    let hl : slice_get ls2 L ≡ Some (Some y1) = get-set_other ls1 (L + 3) L (Some (pos size)) (omega arith) ∙ hy1 in
    let hs : slice_get ls2 (L + 3) ≡ Some (Some (pos size)) = get-set_same ls1 (L + 3) (Some (pos size)) (omega (arith, room, long1)) in
    still_ends c b (i1 + 1) n ls2 ls3 w _ _ h1.1.0
    (ap (λ o. put_in L ls2 (go_on (set_number s o w) (λ v w. go_on (local_value s (L + 3) ls2 w) (λ u w. code.operate s Mul unsigned_long v u w)))) hl ∙ ap (λ o. put_in L ls2 (go_on (set_number s o w) (λ u w. code.operate s Mul unsigned_long y1 u w))) hs)
    (let hx3 : slice_get ls3 (L + 2) ≡ Some (Some x) = get-set_below ls2 L (L + 2) (Some y2) (omega arith) ∙ get-set_other ls1 (L + 3) (L + 2) (Some (pos size)) (omega arith) ∙ o1 (L + 2) (omega arith) ∙ hx in
    let ha3 : slice_get ls3 (L + 1) ≡ slice_get ls (L + 1) = get-set_below ls2 L (L + 1) (Some y2) (omega arith) ∙ get-set_other ls1 (L + 3) (L + 1) (Some (pos size)) (omega arith) ∙ o1 (L + 1) (omega arith) in
    let k3 : Kept L ls ls3 = kept_trans L L ls ls1 ls3 (omega arith) k1 (kept_trans L L ls1 ls2 ls3 (omega arith) (kept_set L (L + 3) ls1 (Some (pos size)) (omega arith)) (kept_set L L ls2 (Some y2) (omega arith))) in
    by_moves (λ op. HasAt c b (i1 + 1 + 1) (does s (trees.bin (L + 2) (op_of op) unsigned_long (L + 2) L) ∷ rest) → Ends c b (i1 + 1 + 1) ls3 n w (follow (updated c.program s op (pointer t) (int u) x y w) n go))
    (λ h3. sure_ends c b (i1 + 1 + 1) (L + 2) (L + 2) L n s (op_of ops.Add) unsigned_long ls3 w x y2 (moved x y1 size) rest _ (omega (arith, room, long1, long2, long3)) hx3 (get-set_same ls2 L (Some y2) (omega (arith, room, long1, long2)))
    (ap (λ r. gives r w) (sum_right x (y1 *ℤ pos size))) h3 (λ i4 ls4 h4 k4 hv4. next i4 (moved x y1 size) w ls4 h4 (kept_trans L L ls ls3 ls4 (omega arith) k3 (far L ls3 ls4 k4)) (k4.same (L + 1) (omega arith) ∙ ha3) hv4))
    (λ h3. sure_ends c b (i1 + 1 + 1) (L + 2) (L + 2) L n s (op_of ops.Sub) unsigned_long ls3 w x y2 (moved_back x y1 size) rest _ (omega (arith, room, long1, long2, long3)) hx3 (get-set_same ls2 L (Some y2) (omega (arith, room, long1, long2)))
    (ap (λ r. gives r w) (difference_right x (y1 *ℤ pos size))) h3 (λ i4 ls4 h4 k4 hv4. next i4 (moved_back x y1 size) w ls4 h4 (kept_trans L L ls ls3 ls4 (omega arith) k3 (far L ls3 ls4 k4)) (k4.same (L + 1) (omega arith) ∙ ha3) hv4))
    op e h1.1.1)))
  where
    far : (L : ℕ) (ls ms : Locals) → Kept (L + 2) ls ms → Kept L ls ms
    far L ls ms k = record { same = λ x h. k.same x (omega arith); long = k.long }

change_does : (c : Coded) (L : ℕ) (s : Span) (op : Binary) (t u : TypeTree) → sort_of op ≡ computing → changes op t u ≡ true
    → (b i n : ℕ) (ls : Locals) (w : World) (x y : ℤ) (rest : List Item) (go : ℤ → World → Outcome) → L + updated_need t u ≤ length ls → slice_get ls (L + 2) ≡ Some (Some x) → slice_get ls L ≡ Some (Some y)
    → HasAt c b i (updates c.program.unit s op t u L rest) → Changed c b n L ls rest go → Ends c b i ls n w (follow (updated c.program s op t u x y w) n go)
change_does c L s op (int t) (int u) e k b i n ls w x y rest go room hx hy h next = change_integer c L s op t u e b i n ls w x y rest go (omega (arith, room)) hx hy h next
change_does c L s op (pointer t) (int u) e k b i n ls w x y rest go room hx hy h next = change_pointer c L s op t u k b i n ls w x y rest go (omega (arith, room)) hx hy h next
change_does c L s op void u e k b i n ls z x y rest go room hx hy h next = absurd (cc k)
change_does c L s op (array t j) u e k b i n ls z x y rest go room hx hy h next = absurd (cc k)
change_does c L s op (tag t) u e k b i n ls z x y rest go room hx hy h next = absurd (cc k)
change_does c L s op (int t) void e k b i n ls z x y rest go room hx hy h next = absurd (cc k)
change_does c L s op (int t) (pointer u) e k b i n ls z x y rest go room hx hy h next = absurd (cc k)
change_does c L s op (int t) (array u j) e k b i n ls z x y rest go room hx hy h next = absurd (cc k)
change_does c L s op (int t) (tag u) e k b i n ls z x y rest go room hx hy h next = absurd (cc k)
change_does c L s op (pointer t) void e k b i n ls z x y rest go room hx hy h next = absurd (cc k)
change_does c L s op (pointer t) (pointer u) e k b i n ls z x y rest go room hx hy h next = absurd (cc k)
change_does c L s op (pointer t) (array u j) e k b i n ls z x y rest go room hx hy h next = absurd (cc k)
change_does c L s op (pointer t) (tag u) e k b i n ls z x y rest go room hx hy h next = absurd (cc k)

left_one : (c : Coded) (l : ExprTree) (o : Option ℕ) → 1 ≤ left_at_need c.program.unit l o
left_one c l (Some x) = omega arith
left_one c l None = omega arith

three_of : (t u : TypeTree) → 3 ≤ updated_need t u
three_of void u = omega arith
three_of (int t) u = omega arith
three_of (array t n) u = omega arith
three_of (tag t) u = omega arith
three_of (pointer t) void = omega arith
three_of (pointer t) (int u) = omega arith
three_of (pointer t) (pointer u) = omega arith
three_of (pointer t) (array u n) = omega arith
three_of (pointer t) (tag u) = omega arith

placed_at : (L : ℕ) (ls ms : Locals) (o : Option ℕ) (to : Left) → slice_get ms (L + 1) ≡ slice_get ls (L + 1) → Placed ls L o to → Placed ms L o to
placed_at L ls ms (Some x) to e p = p
placed_at L ls ms None to e p = (p.0, p.1, e ∙ p.2)

-- ---- effects

-- what goes on after an effect, with the locals of the tree and of the code
abbrev pub Onward : (c : Coded) (L b n : ℕ) (xs ls : Locals) (rest : List Item) (go : Locals → World → Outcome) → Type 0
Onward c L b n xs ls rest go =
    (i' : ℕ) (ys : Locals) (w' : World) (ls' : Locals) → HasAt c b i' rest → Matches L ys ls' → length ys ≡ length xs → length ls' ≡ length ls → Ends c b i' ls' n w' (go ys w')

pub effect_does : (c : Coded) (L : ℕ) (xs : Locals) (q : Span) (e : EffectTree) → EffectFine c.program.unit L e → GivesNumbers c.program
    → (b i n : ℕ) (ls : Locals) (w : World) (rest : List Item) (go : Locals → World → Outcome) → L ≤ length xs → L + effect_need c.program.unit e ≤ length ls → Matches L xs ls → HasAt c b i (effect_code c.program.unit q e b L rest)
    → Onward c L (effect_last e b) n xs ls rest go → Ends c b i ls n w (follow (done c.program xs e w) n go)
effect_does c L xs q (set l r s) fine g b i n ls w rest go wide room m h next =
    let o = local_of l in let one = left_one c l o in
    ends_on c b i n ls w (right c.program xs (type_of l) r w) (λ v w. go_on (left c.program xs l w) (λ to w. write_left c.program xs l to v w)) go
    (right_does c L xs q (type_of l) r fine.0 g b i n ls w (left_at_code c.program.unit q l o (right_last r b) L (write_code l o L L ∷ rest)) (λ v w. follow (go_on (left c.program xs l w) (λ to w. write_left c.program xs l to v w)) n go) (omega (arith, room)) m h
    (λ i1 v w1 ls1 h1 k1 hv. let long1 = k1.long in
    ends_on c (right_last r b) i1 n ls1 w1 (left_at c.program xs l o w1) (λ to w. write_left c.program xs l to v w) go
    (left_does c L xs q l o fine.1 (right_last r b) i1 n ls1 w1 (write_code l o L L ∷ rest) (λ to w. follow (write_left c.program xs l to v w) n go) (omega (arith, room, long1)) (matches_kept L L xs ls ls1 (omega arith) m k1) h1
    (λ i2 to w2 ls2 h2 k2 p. let long2 = k2.long in
    write_does c L xs l o fine.1 (left_at_last l o (right_last r b)) i2 L n ls2 w2 to v rest go wide (omega (arith, room, long1, long2, one)) (matches_kept L L xs ls ls2 (omega arith) m (kept_trans L L ls ls1 ls2 (omega arith) k1 (lowered L ls1 ls2 k2))) p
    (k2.same L (omega arith) ∙ hv) h2
    (λ i3 ys w3 ls3 h3 m3 ly ll. next i3 ys w3 ls3 h3 m3 ly (ll ∙ k2.long ∙ k1.long))))))
effect_does c L xs q (update op l e s) fine g b i n ls w rest go wide room m h next =
    let d = c.program.unit in let o = local_of l in let t = type_of l in let u = value_type (type_of e) in let one = left_one c l o in let three = three_of t u in
    let write = write_code l o L (L + 2) ∷ rest in let change = updates d s op t u L write in let read = read_code l o L (L + 2) ∷ change in
    let b1 = (last e).val b in let b2 = left_at_last l o b1 in
    ends_on c b i n ls w (eval c.program xs e w) (λ y w. go_on (left c.program xs l w) (λ to w. go_on (read_left c.program xs l to w) (λ x w. go_on (updated c.program s op t u x y w) (λ v w. write_left c.program xs l to v w)))) go
    ((does_of c L xs q e fine.2).val b i L n ls w (left_at_code d q l o b1 L read) _ (omega arith) (omega (arith, room)) m h
    (λ i1 y w1 ls1 h1 k1 hy. let long1 = k1.long in let m1 = matches_kept L L xs ls ls1 (omega arith) m k1 in
    ends_on c b1 i1 n ls1 w1 (left_at c.program xs l o w1) (λ to w. go_on (read_left c.program xs l to w) (λ x w. go_on (updated c.program s op t u x y w) (λ v w. write_left c.program xs l to v w))) go
    (left_does c L xs q l o fine.3 b1 i1 n ls1 w1 read _ (omega (arith, room, long1)) m1 h1
    (λ i2 to w2 ls2 h2 k2 p. let long2 = k2.long in let m2 = matches_kept L (L + 1) xs ls1 ls2 (omega arith) m1 k2 in
    ends_on c b2 i2 n ls2 w2 (read_left c.program xs l to w2) (λ x w. go_on (updated c.program s op t u x y w) (λ v w. write_left c.program xs l to v w)) go
    (read_does c L xs l o fine.3 b2 i2 n ls2 w2 to change _ (omega (arith, room, long1, long2, three)) m2 p h2
    (λ x w3 ls3 h3 k3 hx. let long3 = k3.long in
    ends_on c b2 (i2 + 1) n ls3 w3 (updated c.program s op t u x y w3) (λ v w. write_left c.program xs l to v w) go
    (change_does c L s op t u fine.0 fine.1 b2 (i2 + 1) n ls3 w3 x y write _ (omega (arith, room, long1, long2, long3)) hx (k3.same L (omega arith) ∙ k2.same L (omega arith) ∙ hy) h3
    (λ i4 v w4 ls4 h4 k4 ha4 hv4. let long4 = k4.long in
    write_does c L xs l o fine.3 b2 i4 (L + 2) n ls4 w4 to v rest go wide (omega (arith, room, long1, long2, long3, long4, one))
    (matches_kept L L xs ls3 ls4 (omega arith) (matches_kept L (L + 2) xs ls2 ls3 (omega arith) m2 k3) k4) (placed_at L ls3 ls4 o to ha4 (placed_still L ls2 ls3 o to k3 p)) hv4 h4
    (λ i5 ys w5 ls5 h5 m5 ly ll. next i5 ys w5 ls5 h5 m5 ly (ll ∙ k4.long ∙ k3.long ∙ k2.long ∙ k1.long))))))))))
effect_does c L xs q (call_alone k) fine g b i n ls w rest go wide room m h next =
    ends_on c b i n ls w (called c.program xs k None w) (λ v w. gives xs w) go
    (call_does c L xs q k None fine g b i n ls w rest (λ v w. go xs w) room m h
    (λ i1 a w1 ls1 h1 k1 ga some. next i1 xs w1 ls1 h1 (matches_kept L L xs ls ls1 (omega arith) m k1) refl k1.long))
effect_does c L xs q (value_alone e) fine g b i n ls w rest go wide room m h next =
    ends_on c b i n ls w (eval c.program xs (operand_of e) w) (λ v w. gives xs w) go
    ((does_of c L xs q (operand_of e) fine).val b i L n ls w rest (λ v w. go xs w) (omega arith) room m h
    (λ i1 v w1 ls1 h1 k1 hv. next i1 xs w1 ls1 h1 (matches_kept L L xs ls ls1 (omega arith) m k1) refl k1.long))

pub effects_do : (c : Coded) (tokens : List Token) (r : TypeTree) (L : ℕ) (xs : Locals) (q : Span) (es : List EffectTree) → EffectsFine c.program.unit L es → GivesNumbers c.program
    → (b i n : ℕ) (ls : Locals) (w : World) (rest : List Item) (go : Locals → World → Outcome) → L ≤ length xs → L + effects_need c.program.unit es ≤ length ls → Matches L xs ls → HasAt c b i (effects_code (in_setting c tokens r L) q es b rest)
    → Onward c L (places.effects_last es b) n xs ls rest go → Ends c b i ls n w (follow (all_done c.program xs es w) n go)
effects_do c tokens r L xs q [] fine g b i n ls w rest go wide room m h next = next i xs w ls h m refl refl
effects_do c tokens r L xs q (e ∷ es) fine g b i n ls w rest go wide room m h next =
    ends_on c b i n ls w (done c.program xs e w) (λ ls w. all_done c.program ls es w) go
    (effect_does c L xs q e fine.0 g b i n ls w (effects_code (in_setting c tokens r L) q es (effect_last e b) rest) (λ ys w. follow (all_done c.program ys es w) n go) wide (omega (arith, room)) m h
    (λ i1 ys w1 ls1 h1 m1 ly ll. effects_do c tokens r L ys q es fine.1 g (effect_last e b) i1 n ls1 w1 rest go (omega (arith, wide, ly)) (omega (arith, room, ll)) m1 h1
    (λ i2 zs w2 ls2 h2 m2 lz l2. next i2 zs w2 ls2 h2 m2 (lz ∙ ly) (l2 ∙ ll))))
