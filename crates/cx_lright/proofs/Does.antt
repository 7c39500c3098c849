-- What it means that code does what a tree gives, and the ways in which code is put together.
use Rattle.std.proofs.Common.{ℕ, ℤ, pos, ◌≡◌, ◌+◌, ◌<◌, ◌≤◌, Bool, true, false, not, List, ◌∷◌, length, Some, refl, sym, ap, ◌∙◌, subst, arith}
use Rattle.std.specs.Prelude.{slice_get, slice_set, if◌then◌else◌}
use Rattle.cx_base.specs.declared.number.CInt.{CInt}
use Rattle.cx_base.specs.declared.span.Span.{Span}
use Rattle.cx_cconst.specs.Constants.{truth}
use Rattle.cx_cmean.specs.Numbers.{as_type, is_zero, as_number}
use Rattle.cx_goto.specs.Machine.{Outcome, follow, unset_from}
use Rattle.cx_goto.specs.Trees.{const}
use Rattle.cx_goto.specs.declared.code.End.TheVariants.{Jump, Branch}
use Rattle.cx_goto.specs.declared.code.Rel.TheVariants.{Ne}
use Rattle.cx_lcode.specs.Items.{Item, start, does, converts}
use Rattle.cx_lcode.specs.Needs.{Needs, by_value, by_test, two}
use Rattle.cx_lcode.specs.Places.{Last, last_by_value, last_by_test}
use Rattle.cx_lcode.specs.Values.{Code, code_by_value, code_by_test}
use Rattle.cx_lright.proofs.Lines.{const_ends, converts_ends}
use Rattle.cx_lright.proofs.Locals.{Matches, Kept, kept_trans, matches_kept, kept_set, kept_unset, get-set_same, get-set_other, get-unset}
use Rattle.cx_lright.proofs.Machine.{Coded, IsLine, IsEnd, Keeps, HasAt, Ends, ends_as, ends_on, Goes, jump_ends, branch_ends, goes_ahead}
use Rattle.cx_lright.proofs.Rests.{AfterTest}
use Rattle.cx_world.specs.World.{World, Did, gives, go_on, Locals}

-- the code of a value does what the tree gives at the locals xs, whatever comes after it, and leaves it in the local t
abbrev pub DoesVal : (c : Coded) (L need : ℕ) (xs : Locals) (f : ℕ → ℕ) (val : ℕ → ℕ → List Item → List Item) (ev : World → Did ℤ) → Type 0
DoesVal c L need xs f val ev =
    (b i t n : ℕ) (ls : Locals) (w : World) (rest : List Item) (go : ℤ → World → Outcome) → L ≤ t → t + need ≤ length ls → Matches L xs ls → HasAt c b i (val b t rest)
    → ((i' : ℕ) (v : ℤ) (w' : World) (ls' : Locals) → HasAt c (f b) i' rest → Kept t ls ls' → slice_get ls' t ≡ Some (Some v) → Ends c (f b) i' ls' n w' (go v w'))
    → Ends c b i ls n w (follow (ev w) n go)

-- the same of a test, which goes to j or m by the answer, from one of its blocks
abbrev pub DoesTest : {A : Type 0} (c : Coded) (L need : ℕ) (xs : Locals) (f : ℕ → ℕ) (test : ℕ → ℕ → ℕ → ℕ → ℕ → List Item → List Item) (ev : World → Did A) (to : A → ℕ → ℕ → ℕ) → Type 0
DoesTest {A} c L need xs f test ev to =
    (b i t j m keep n : ℕ) (ls : Locals) (w : World) (rest : List Item) (go : A → World → Outcome) → L ≤ t → t + need ≤ length ls → Matches L xs ls → HasAt c b i (test b t j m keep rest)
    → ((b' : ℕ) (a : A) (w' : World) (ls' : Locals) → b ≤ b' → b' ≤ f b → Kept t ls ls' → Goes c b' (to a j m) ls' n w' (go a w'))
    → Ends c b i ls n w (follow (ev w) n go)

abbrev pub by_number : ℤ → ℕ → ℕ → ℕ
by_number v j m = if is_zero v then m else j

abbrev pub by_truth : Bool → ℕ → ℕ → ℕ
by_truth z j m = if z then j else m

pub record Does (c : Coded) (L : ℕ) (need : Needs) (xs : Locals) (l : Last) (k : Code) (ev : World → Did ℤ) : Type 0 where
  pub val : DoesVal c L need.val xs l.val k.val ev
  pub test : DoesTest c L need.test xs l.test k.test ev by_number

-- the same of something that gives the same
pub does_as : (c : Coded) (L : ℕ) (need : Needs) (xs : Locals) (l : Last) (k : Code) (ev fv : World → Did ℤ) → ((w : World) → ev w ≡ fv w) → Does c L need xs l k ev → Does c L need xs l k fv
does_as c L need xs l k ev fv e d = record {
  val = λ b i t n ls w rest go lo room m h next. ends_as c b i n ls w _ _ (ap (λ r. follow r n go) (e w)) (d.val b i t n ls w rest go lo room m h next);
  test = λ b i t j k keep n ls w rest go lo room m h next. ends_as c b i n ls w _ _ (ap (λ r. follow r n go) (e w)) (d.test b i t j k keep n ls w rest go lo room m h next);
}

not_swaps : (z : Bool) (x y : ℕ) → (if not z then x else y) ≡ (if z then y else x)
not_swaps true x y = refl
not_swaps false x y = refl

pub truth_goes : (z : Bool) (j m : ℕ) → by_number (truth z) j m ≡ by_truth z j m
truth_goes true j m = refl
truth_goes false j m = refl

by_bool : (P : Bool → Type 0) → P true → P false → (z : Bool) → P z
by_bool P p q true = p
by_bool P p q false = q

-- ---- a test by its value

pub does_by_value : (c : Coded) (L need : ℕ) (xs : Locals) (s : Span) (f : ℕ → ℕ) (val : ℕ → ℕ → List Item → List Item) (ev : World → Did ℤ) → ((b : ℕ) → b ≤ f b) → DoesVal c L need xs f val ev
    → Does c L (by_value need) xs (last_by_value f) (code_by_value s val) ev
does_by_value c L need xs s f val ev up d = record {
  val = d;
  test = λ b i t j m keep n ls w rest go lo room a h next.
      d b i t n ls w (does s (const (t + 1) (pos 0)) ∷ start (Branch Ne t (t + 1) j m) s keep ∷ rest) go lo (omega (arith, room)) a h
      (λ i' v w' ls' h' a' hv. let long = a'.long in let ls2 = slice_set ls' (t + 1) (Some (pos 0)) in
      const_ends c (f b) i' (t + 1) n s ls' w' (pos 0) (go v w') h'.0
      (branch_ends c (f b) (i' + 1) t (t + 1) n s ls2 w' Ne v (pos 0) j m (go v w') h'.1.0
      (get-set_other ls' (t + 1) t (Some (pos 0)) (omega arith) ∙ hv) (get-set_same ls' (t + 1) (Some (pos 0)) (omega (arith, long, room)))
      (subst (λ x. Goes c (f b) x ls2 n w' (go v w')) (sym (not_swaps (is_zero v) j m))
      (next (f b) v w' ls2 (up b) (omega arith) (kept_trans t t ls ls' ls2 (omega arith) a' (kept_set t (t + 1) ls' (Some (pos 0)) (omega arith)))))));
}

-- ---- a value by a test

-- to the block that leaves 1 or 0 in local t
side_goes : (c : Coded) (a b t e n : ℕ) (s q : Span) (ls : Locals) (w : World) (v : ℤ) (o : Outcome) → t < length ls → Keeps c b t → a < b → IsLine c b 0 (record { instr = const t v; span = s }) → IsEnd c b 1 (Jump e) q → Keeps c e (t + 1) → b < e
    → ((ls' : Locals) → Kept t ls ls' → slice_get ls' t ≡ Some (Some v) → Ends c e 0 ls' n w o) → Goes c a b ls n w o
side_goes c a b t e n s q ls w v o room kb lb l j k lt next =
    let ls1 = unset_from t ls in let ls2 = slice_set ls1 t (Some v) in let ls3 = unset_from (t + 1) ls2 in
    let a1 = kept_unset t t ls (omega arith) in let long = a1.long in
    goes_ahead c a b t n ls w o kb lb
    (const_ends c b 0 t n s ls1 w v o l (jump_ends c b 1 e n q ls2 w o j (goes_ahead c b e (t + 1) n ls2 w o k lt
    (next ls3 (kept_trans t t ls ls1 ls3 (omega arith) a1 (kept_trans t t ls1 ls2 ls3 (omega arith) (kept_set t t ls1 (Some v) (omega arith)) (kept_unset t (t + 1) ls2 (omega arith))))
    (get-unset (t + 1) ls2 t (omega arith) ∙ get-set_same ls1 t (Some v) (omega (arith, room, long)))))))

pub does_by_test : (c : Coded) (L need : ℕ) (xs : Locals) (q s : Span) (f : ℕ → ℕ) (test : ℕ → ℕ → ℕ → ℕ → ℕ → List Item → List Item) (ev : World → Did Bool) → 1 ≤ need → AfterTest c f test
    → DoesTest c L need xs f test ev by_truth → Does c L (by_test need) xs (last_by_test f) (code_by_test q s f test) (λ w. as_number (ev w))
does_by_test c L need xs z s f test ev one r d = record {
  val = λ b i t n ls w rest go lo room a h next.
      let j = f b + 1 in let m = j + 1 in let e = m + 1 in
      let q = r b i t j m t (does s (const t (pos 1)) ∷ start (Jump e) z t ∷ does s (const t (pos 0)) ∷ start (Jump e) z (t + 1) ∷ rest) h in
      ends_on c b i n ls w (ev w) (λ z w. gives (truth z) w) go
      (d b i t j m t n ls w _ (λ z w. go (truth z) w) lo room a h
      (λ b' x w' ls' l' u' a'. let long = a'.long in
      by_bool (λ x. Goes c b' (by_truth x j m) ls' n w' (go (truth x) w'))
      (side_goes c b' j t e n s z ls' w' (pos 1) (go (pos 1) w') (omega (arith, long, one, room)) q.0 (omega (arith, u')) q.1.0 q.1.1.0 q.1.1.2.1.1 (omega arith)
      (λ ls3 a3 hv. next 0 (pos 1) w' ls3 q.1.1.2.1.2 (kept_trans t t ls ls' ls3 (omega arith) a' a3) hv))
      (side_goes c b' m t e n s z ls' w' (pos 0) (go (pos 0) w') (omega (arith, long, one, room)) q.1.1.1 (omega (arith, u')) q.1.1.2.0 q.1.1.2.1.0 q.1.1.2.1.1 (omega arith)
      (λ ls3 a3 hv. next 0 (pos 0) w' ls3 q.1.1.2.1.2 (kept_trans t t ls ls' ls3 (omega arith) a' a3) hv))
      x));
  test = λ b i t j m keep n ls w rest go lo room a h next.
      ends_on c b i n ls w (ev w) (λ z w. gives (truth z) w) go
      (d b i t j m keep n ls w rest (λ z w. go (truth z) w) lo room a h
      (λ b' x w' ls' l' u' a'. subst (λ y. Goes c b' y ls' n w' (go (truth x) w')) (truth_goes x j m) (next b' (truth x) w' ls' l' u' a')));
}

-- ---- values in a type

-- a value, converted to a type
pub number_does : (c : Coded) (L need : ℕ) (xs : Locals) (f : ℕ → ℕ) (val : ℕ → ℕ → List Item → List Item) (ev : World → Did ℤ) (s : Span) (from to : CInt) → 1 ≤ need → DoesVal c L need xs f val ev
    → DoesVal c L need xs f (λ b t rest. val b t (converts s from to t rest)) (λ w. go_on (ev w) (λ v w. gives (as_type from to v) w))
number_does c L need xs f val ev s from to one d b i t n ls w rest go lo room m h next =
    ends_on c b i n ls w (ev w) (λ v w. gives (as_type from to v) w) go
    (d b i t n ls w (converts s from to t rest) (λ v w. go (as_type from to v) w) lo room m h
    (λ i' v w' ls' h' k hv. let long = k.long in
    converts_ends c (f b) i' t n s from to ls' w' v rest (go (as_type from to v) w') (omega (arith, room, long, one)) hv h'
    (λ i2 ls2 h2 k2 hv2. next i2 (as_type from to v) w' ls2 h2 (kept_trans t t ls ls' ls2 (omega arith) k k2) hv2)))

lowered : (t : ℕ) (ls ms : Locals) → Kept (t + 1) ls ms → Kept t ls ms
lowered t ls ms k = record { same = λ x h. k.same x (omega arith); long = k.long }

-- two values, one after the other
pub two_values : {B : Type 0} (c : Coded) (L nx ny : ℕ) (xs : Locals) (fx fy : ℕ → ℕ) (vx vy : ℕ → ℕ → List Item → List Item) (ex ey : World → Did ℤ) → DoesVal c L nx xs fx vx ex → DoesVal c L ny xs fy vy ey
    → (next : ℤ → ℤ → World → Did B) (b i t n : ℕ) (ls : Locals) (w : World) (rest : List Item) (go : B → World → Outcome) → L ≤ t → t + two nx ny ≤ length ls → Matches L xs ls
    → HasAt c b i (vx b t (vy (fx b) (t + 1) rest))
    → ((i' : ℕ) (v u : ℤ) (w' : World) (ls' : Locals) → HasAt c (fy (fx b)) i' rest → Kept t ls ls' → slice_get ls' t ≡ Some (Some v) → slice_get ls' (t + 1) ≡ Some (Some u) → Ends c (fy (fx b)) i' ls' n w' (follow (next v u w') n go))
    → Ends c b i ls n w (follow (go_on (ex w) (λ v w. go_on (ey w) (λ u w. next v u w))) n go)
two_values c L nx ny xs fx fy vx vy ex ey dx dy next b i t n ls w rest go lo room m h last =
    ends_on c b i n ls w (ex w) (λ v w. go_on (ey w) (λ u w. next v u w)) go
    (dx b i t n ls w (vy (fx b) (t + 1) rest) (λ v w. follow (go_on (ey w) (λ u w. next v u w)) n go) lo (omega (arith, room)) m h
    (λ i1 v w1 ls1 h1 a1 hv. let long = a1.long in
    ends_on c (fx b) i1 n ls1 w1 (ey w1) (λ u w. next v u w) go
    (dy (fx b) i1 (t + 1) n ls1 w1 rest (λ u w. follow (next v u w) n go) (omega (arith, lo)) (omega (arith, long, room)) (matches_kept L t xs ls ls1 lo m a1) h1
    (λ i2 u w2 ls2 h2 a2 hu. last i2 v u w2 ls2 h2 (kept_trans t t ls ls1 ls2 (omega arith) a1 (lowered t ls1 ls2 a2)) (a2.same t (omega arith) ∙ hv) hu))))

-- two values, each converted to a type
pub two_numbers : {B : Type 0} (c : Coded) (L nx ny : ℕ) (xs : Locals) (fx fy : ℕ → ℕ) (vx vy : ℕ → ℕ → List Item → List Item) (ex ey : World → Did ℤ) (sx sy : Span) (from_x to_x from_y to_y : CInt) → 1 ≤ nx → 1 ≤ ny
    → DoesVal c L nx xs fx vx ex → DoesVal c L ny xs fy vy ey
    → (next : ℤ → ℤ → World → Did B) (b i t n : ℕ) (ls : Locals) (w : World) (rest : List Item) (go : B → World → Outcome) → L ≤ t → t + two nx ny ≤ length ls → Matches L xs ls
    → HasAt c b i (vx b t (converts sx from_x to_x t (vy (fx b) (t + 1) (converts sy from_y to_y (t + 1) rest))))
    → ((i' : ℕ) (v u : ℤ) (w' : World) (ls' : Locals) → HasAt c (fy (fx b)) i' rest → Kept t ls ls' → slice_get ls' t ≡ Some (Some (as_type from_x to_x v)) → slice_get ls' (t + 1) ≡ Some (Some (as_type from_y to_y u))
    → Ends c (fy (fx b)) i' ls' n w' (follow (next v u w') n go))
    → Ends c b i ls n w (follow (go_on (ex w) (λ v w. go_on (ey w) (λ u w. next v u w))) n go)
two_numbers c L nx ny xs fx fy vx vy ex ey sx sy from_x to_x from_y to_y onex oney dx dy next b i t n ls w rest go lo room m h last =
    ends_on c b i n ls w (ex w) (λ v w. go_on (ey w) (λ u w. next v u w)) go
    (dx b i t n ls w _ (λ v w. follow (go_on (ey w) (λ u w. next v u w)) n go) lo (omega (arith, room)) m h
    (λ i1 v w1 ls1 h1 a1 hv. let long1 = a1.long in
    converts_ends c (fx b) i1 t n sx from_x to_x ls1 w1 v _ _ (omega (arith, room, long1, onex)) hv h1
    (λ i2 ls2 h2 a2 hv2. let long2 = a2.long in
    ends_on c (fx b) i2 n ls2 w1 (ey w1) (λ u w. next v u w) go
    (dy (fx b) i2 (t + 1) n ls2 w1 _ (λ u w. follow (next v u w) n go) (omega (arith, lo)) (omega (arith, long1, long2, room))
    (matches_kept L t xs ls ls2 lo m (kept_trans t t ls ls1 ls2 (omega arith) a1 a2)) h2
    (λ i3 u w3 ls3 h3 a3 hu. let long3 = a3.long in
    converts_ends c (fy (fx b)) i3 (t + 1) n sy from_y to_y ls3 w3 u rest _ (omega (arith, room, long1, long2, long3, oney)) hu h3
    (λ i4 ls4 h4 a4 hu4. last i4 v u w3 ls4 h4
    (kept_trans t t ls ls2 ls4 (omega arith) (kept_trans t t ls ls1 ls2 (omega arith) a1 a2) (lowered t ls2 ls4 (kept_trans (t + 1) (t + 1) ls2 ls3 ls4 (omega arith) a3 a4)))
    (a4.same t (omega arith) ∙ a3.same t (omega arith) ∙ hv2) hu4))))))
