-- What is learnt keeps what stands, where it is true.
use Rattle.std.specs.Prelude.{◌≡◌, ◌≢◌, ℕ, zero, suc, ℤ, pos, negsuc, neg_ℤ, ◌+ℤ◌, ◌-ℤ◌, ◌*ℤ◌, ◌≤ℤ◌, ◌<ℤ◌, nat_lt, ◌==◌, Bool, true, false, List, [], ◌∷◌, ◌++◌, length, slice_get, slice_set, Option, Some, None, Ok, Err, IfOk}
use Rattle.std.specs.List.{AllByRecursion}
use Rattle.std.proofs.Common.{arith, refl, sym, ap, ◌∙◌, cond, subst}
use Rattle.std.proofs.lemmas.Int.{ints}
use Rattle.std.proofs.lemmas.Bool.Decides.{nat_tests}
use Rattle.cx_base.specs.declared.memory.Region.{Region}
use Rattle.cx_term.specs.Forms.{Linear, value, constant_of}
use Rattle.cx_term.specs.Conditions.{Holds}
use Rattle.cx_term.specs.Sums.{plus_times}
use Rattle.cx_term.specs.declared.term.Ineq.{Ineq}
use Rattle.cx_term.specs.declared.term.Ineq.TheVariants.{Ge, Ne}
use Rattle.cx_term.proofs.Exact.{value-plus_times}
use Rattle.cx_term.proofs.Ring.{mul-sub_left}
use Rattle.cx_entail.specs.Ranges.{Span, Has, low, high, same_z}
use Rattle.cx_entail.specs.Bounds.{InRanges, range_at}
use Rattle.cx_entail.specs.Shows.{less_one, minus, minus_less_one}
use Rattle.cx_entail.proofs.Congruences.{zero_distance}
use Rattle.cx_entail.proofs.Nonzero.{nonzero_sound}
use Rattle.cx_entail.proofs.RangeLaws.{low-le, high-ge, low-has, high-has}
use Rattle.cx_state.specs.Run.{Run}
use Rattle.cx_state.specs.Stands.{StandsAtAccess, Stands}
use Rattle.cx_state.specs.declared.state.Env.{Env}
use Rattle.cx_state.specs.declared.state.EnvLimit.TheVariants.{Conds}
use Rattle.cx_state.specs.declared.state.EnvFault.TheVariants.{Limit, NoMemory}
use Rattle.cx_query.specs.Shown.{shown_in}
use Rattle.cx_query.proofs.Comes.{Meets, Comes, fit-comes, some-comes, shown_in-sound}
use Rattle.cx_learn.specs.Answers.{Answer, and_then, Agrees}
use Rattle.cx_learn.specs.Keeping.{KeepsWhere}
use Rattle.cx_learn.specs.Learning.{all_bounded, with_cond, with_ranges, nonzero_in, learnt_ge, learnt_if, excluded_by, excluded, fitted, end_moved, moved_to, excluding, learnt_ne, learnt}
use Rattle.cx_learn.proofs.Bounded.{set-in_ranges, all_bounded-in_ranges}

-- the second state is the first with other ranges and conditions, which are true
pub record Learns (v : ℕ → ℤ) (env next : Env) : Type 0 where
  pub rs : List Span
  pub cs : List Ineq
  pub is : next ≡ record env { ranges = rs; conds = cs }
  pub meets : Meets (record env { ranges = rs; conds = cs }) v

-- where the answer is a state, it learns what is true
abbrev pub Gives : (ℕ → ℤ) → Env → Answer → Type 0
Gives v env a = (next : Env) → a ≡ Ok next → Learns v env next

pub learns-refl : (v : ℕ → ℤ) (env : Env) → Meets env v → Learns v env env
learns-refl v env m = record { rs = env.ranges; cs = env.conds; is = refl; meets = record { ranges = m.ranges; conds = m.conds } }

pub ok-gives : (v : ℕ → ℤ) (env : Env) → Meets env v → Gives v env (Ok env)
ok-gives v env m next e = let f : env ≡ next = cc in subst (λ (x : Env). Learns v env x) f (learns-refl v env m)

pub learns-then : (v : ℕ → ℤ) (env mid next : Env) → Learns v env mid → Learns v mid next → Learns v env next
learns-then v env mid next a b =
    record {
      rs = b.rs;
      cs = b.cs;
      is = b.is ∙ ap (λ (x : Env). record x { ranges = b.rs; conds = b.cs }) a.is;
      meets = record { ranges = b.meets.ranges; conds = b.meets.conds };
    }

pub learns-meets : (v : ℕ → ℤ) (env next : Env) → Learns v env next → Meets next v
learns-meets v env next a = subst (λ (x : Env). Meets x v) (sym a.is) a.meets

pub then-gives : (v : ℕ → ℤ) (env : Env) (a : Answer) (step : Env → Answer) → Gives v env a → ((mid : Env) → Meets mid v → Gives v mid (step mid)) → Gives v env (and_then a step)
then-gives v env (Ok mid) step g k next e =
    let l = g mid refl in
    learns-then v env mid next l (k mid (learns-meets v env mid l) next e)
then-gives v env (Err x) step g k next e = absurd (let w : Err x ≡ Ok next = e in cc)

all_push : {X : Type 0} (P : X → Type 0) (xs : List X) (y : X) → AllByRecursion P xs → P y → AllByRecursion P (xs ++ y ∷ [])
all_push P [] y h k = (k, tt)
all_push P (x ∷ xs) y h k = (h.0, all_push P xs y h.1 k)

cond_by : (v : ℕ → ℤ) (env : Env) (c : Ineq) (b : Bool) → Meets env v → Holds v c → Gives v env (cond b (Ok (record env { conds = env.conds ++ c ∷ [] })) (Err (Limit Conds)))
cond_by v env c true m h next e =
    let f : record env { conds = env.conds ++ c ∷ [] } ≡ next = cc in
    record { rs = env.ranges; cs = env.conds ++ c ∷ []; is = sym f; meets = record { ranges = m.ranges; conds = all_push (Holds v) env.conds c m.conds h } }
cond_by v env c false m h next e = absurd (cc)

pub with_cond-gives : (v : ℕ → ℤ) (env : Env) (c : Ineq) → Meets env v → Holds v c → Gives v env (with_cond env c)
with_cond-gives v env c m h = cond_by v env c (nat_lt (length env.conds) 64) m h

ranges-learns : (v : ℕ → ℤ) (env : Env) (rs : List Span) → Meets env v → InRanges rs v → Learns v env (with_ranges env rs)
ranges-learns v env rs m h = record { rs = rs; cs = env.conds; is = refl; meets = record { ranges = h; conds = m.conds } }

ranges-gives : (v : ℕ → ℤ) (env : Env) (rs : List Span) → Meets env v → InRanges rs v → Gives v env (Ok (with_ranges env rs))
ranges-gives v env rs m h next e = let f : with_ranges env rs ≡ next = cc in subst (λ (x : Env). Learns v env x) f (ranges-learns v env rs m h)

kept_by : (v : ℕ → ℤ) (env : Env) (t : Linear) (rs : List Span) (b : Bool) → Meets env v → InRanges rs v → pos 0 ≤ℤ value v t → Gives v env (cond b (with_cond (with_ranges env rs) (Ge t)) (Ok (with_ranges env rs)))
kept_by v env t rs true m r h next e =
    let l = ranges-learns v env rs m r in
    learns-then v env (with_ranges env rs) next l (with_cond-gives v (with_ranges env rs) (Ge t) (learns-meets v env (with_ranges env rs) l) h next e)
kept_by v env t rs false m r h next e = ranges-gives v env rs m r next e

ge_by : (v : ℕ → ℤ) (env : Env) (t : Linear) (b : Bool) → Meets env v → pos 0 ≤ℤ value v t → Gives v env (cond b (Ok env) (cond (nat_lt 1 (length t.parts)) (with_cond (with_ranges env (all_bounded t t.parts env.ranges)) (Ge t)) (Ok (with_ranges env (all_bounded t t.parts env.ranges)))))
ge_by v env t true m h = ok-gives v env m
ge_by v env t false m h = kept_by v env t (all_bounded t t.parts env.ranges) (nat_lt 1 (length t.parts)) m (all_bounded-in_ranges t t.parts env.ranges v m.ranges h) h

pub learnt_ge-gives : (v : ℕ → ℤ) (env : Env) (t : Linear) → Meets env v → pos 0 ≤ℤ value v t → Gives v env (learnt_ge env t)
learnt_ge-gives v env t m h = ge_by v env t (shown_in env (Some t)) m h

pub learnt_if-gives : (v : ℕ → ℤ) (env : Env) (o : Option Linear) (z : ℤ) → Meets env v → Comes v o z → pos 0 ≤ℤ z → Gives v env (learnt_if env o)
learnt_if-gives v env None z m c h = ok-gives v env m
learnt_if-gives v env (Some t) z m c h = learnt_ge-gives v env t m (rw (c t refl) h)

-- ---- a number that is not
same_true : (a b : ℤ) → same_z a b ≡ true → a ≡ b
same_true a b e = zero_distance a b (grind (arith, nat_tests))

excluded_one : (v : ℕ → ℤ) (z : ℤ) (p : ℕ × ℤ) (x : ℕ × ℤ) (b c : Bool) → same_z p.1 (pos 1) ≡ b → same_z p.1 (negsuc 0) ≡ c → (z +ℤ p.1 *ℤ v p.0) ≢ pos 0 → cond b (Some (p.0, neg_ℤ z)) (cond c (Some (p.0, z)) None) ≡ Some x → v x.0 ≢ x.1
excluded_one v z p x true c e f n q =
    let k : p.1 ≡ pos 1 = same_true p.1 (pos 1) e in
    let g : (p.0, neg_ℤ z) ≡ x = cc in
    subst (λ (y : ℕ × ℤ). v y.0 ≢ y.1) g (λ h. n (omega (arith, ints, h, ap (λ (y : ℤ). y *ℤ v p.0) k)))
excluded_one v z p x false true e f n q =
    let k : p.1 ≡ negsuc 0 = same_true p.1 (negsuc 0) f in
    let g : (p.0, z) ≡ x = cc in
    subst (λ (y : ℕ × ℤ). v y.0 ≢ y.1) g (λ h. n (omega (arith, ints, h, ap (λ (y : ℤ). y *ℤ v p.0) k)))
excluded_one v z p x false false e f n q = absurd (cc)

excluded_parts : (v : ℕ → ℤ) (z : ℤ) (ps : List (ℕ × ℤ)) (x : ℕ × ℤ) (b : Bool) → (length ps == 1) ≡ b → value v (record { konst = z; parts = ps }) ≢ pos 0 → cond b (excluded_by z (slice_get ps 0)) None ≡ Some x → v x.0 ≢ x.1
excluded_parts v z ps x false e n q = absurd (cc)
excluded_parts v z [] x true e n q = absurd (let w : false ≡ true = e in cc)
excluded_parts v z (p ∷ []) x true e n q = excluded_one v z p x (same_z p.1 (pos 1)) (same_z p.1 (negsuc 0)) refl refl (λ h. n (omega (arith, ints, h))) q
excluded_parts v z (p ∷ r ∷ ps) x true e n q = absurd (grind (arith, nat_tests))

excluded-not : (v : ℕ → ℤ) (t : Linear) (x : ℕ × ℤ) → value v t ≢ pos 0 → excluded t ≡ Some x → v x.0 ≢ x.1
excluded-not v t x n q = excluded_parts v t.konst t.parts x (length t.parts == 1) refl n q

-- a multiple of m above 0 is at least m
stepped_up : (m : ℕ) (j : ℤ) → pos 0 <ℤ (pos m *ℤ j) → pos m ≤ℤ (pos m *ℤ j)
stepped_up m (pos zero) h = absurd (omega (arith, ints, h))
stepped_up m (pos (suc n)) h = omega (arith, ints)
stepped_up m (negsuc n) h = absurd (omega (arith, ints, h))

low_moved : (r : Span) (x : ℤ) → Has r x → x ≢ low r → (low r +ℤ pos r.m) ≤ℤ x
low_moved r x h n =
    let l = low-le r x h.step h in
    let k = low-has r x h.step h in
    let d : x -ℤ low r ≡ pos r.m *ℤ (h.rest.0 -ℤ k.rest.0) = omega (arith, ints, h.rest.1, k.rest.1, mul-sub_left (pos r.m) h.rest.0 k.rest.0) in
    let a : low r <ℤ x = omega (arith, ints, l, n) in
    omega (arith, ints, d, stepped_up r.m (h.rest.0 -ℤ k.rest.0) (omega (arith, ints, d, a)))

high_moved : (r : Span) (x : ℤ) → Has r x → x ≢ high r → x ≤ℤ (high r -ℤ pos r.m)
high_moved r x h n =
    let l = high-ge r x h.step h in
    let k = high-has r x h.step h in
    let d : high r -ℤ x ≡ pos r.m *ℤ (k.rest.0 -ℤ h.rest.0) = omega (arith, ints, h.rest.1, k.rest.1, mul-sub_left (pos r.m) k.rest.0 h.rest.0) in
    let a : x <ℤ high r = omega (arith, ints, l, n) in
    omega (arith, ints, d, stepped_up r.m (k.rest.0 -ℤ h.rest.0) (omega (arith, ints, d, a)))

fitted-is : (r s : Span) (b : Bool) → cond b (Some r) None ≡ Some s → r ≡ s
fitted-is r s true e = cc
fitted-is r s false e = absurd (cc)

moved_by : (r s : Span) (z x : ℤ) (a b c : Bool) → same_z z (low r) ≡ b → same_z z (high r) ≡ c → Has r x → x ≢ z → cond a None (cond b (fitted (record r { lo = low r +ℤ pos r.m })) (cond c (fitted (record r { hi = high r -ℤ pos r.m })) None)) ≡ Some s → Has s x
moved_by r s z x true b c e f h n q = absurd (cc)
moved_by r s z x false true c e f h n q =
    let g = fitted-is (record r { lo = low r +ℤ pos r.m }) s _ q in
    let k = same_true z (low r) e in
    subst (λ (y : Span). Has y x) g (record { step = h.step; low = low_moved r x h (λ w. n (w ∙ sym k)); high = h.high; rest = h.rest })
moved_by r s z x false false true e f h n q =
    let g = fitted-is (record r { hi = high r -ℤ pos r.m }) s _ q in
    let k = same_true z (high r) f in
    subst (λ (y : Span). Has y x) g (record { step = h.step; low = h.low; high = high_moved r x h (λ w. n (w ∙ sym k)); rest = h.rest })
moved_by r s z x false false false e f h n q = absurd (cc)

end_moved-has : (r s : Span) (z x : ℤ) → Has r x → x ≢ z → end_moved r z ≡ Some s → Has s x
end_moved-has r s z x h n q = moved_by r s z x (same_z (low r) (high r)) (same_z z (low r)) (same_z z (high r)) refl refl h n q

moved_to-gives : (v : ℕ → ℤ) (env : Env) (t : Linear) (s : ℕ) (o : Option Span) → Meets env v → value v t ≢ pos 0 → ((r : Span) → o ≡ Some r → Has r (v s)) → Gives v env (moved_to env t s o)
moved_to-gives v env t s None m n h = with_cond-gives v env (Ne t) m n
moved_to-gives v env t s (Some r) m n h = ranges-gives v env (slice_set env.ranges s r) m (set-in_ranges env.ranges v s r m.ranges (h r refl))

excluding-gives : (v : ℕ → ℤ) (env : Env) (t : Linear) (o : Option (ℕ × ℤ)) → Meets env v → value v t ≢ pos 0 → ((x : ℕ × ℤ) → o ≡ Some x → v x.0 ≢ x.1) → Gives v env (excluding env t o)
excluding-gives v env t None m n h = with_cond-gives v env (Ne t) m n
excluding-gives v env t (Some x) m n h =
    moved_to-gives v env t x.0 (end_moved (range_at env.ranges x.0) x.1) m n (λ r q. end_moved-has (range_at env.ranges x.0) r x.1 (v x.0) (m.ranges x.0) (h x refl) q)

-- ---- not 0
pub nonzero_in-sound : (env : Env) (v : ℕ → ℤ) (t : Linear) → Meets env v → nonzero_in env t ≡ true → value v t ≢ pos 0
unfolding nonzero_in
nonzero_in-sound env v t m e = nonzero_sound env.conds env.ranges v m.ranges m.conds t e

less_one-comes : (v : ℕ → ℤ) (t : Linear) → Comes v (less_one t) (value v t -ℤ pos 1)
less_one-comes v t = fit-comes v (plus_times (negsuc 0) (constant_of (pos 1)) t) _ (omega (arith, ints, value-plus_times (negsuc 0) (constant_of (pos 1)) t v))

minus_less_one-comes : (v : ℕ → ℤ) (t : Linear) → Comes v (minus_less_one t) (neg_ℤ (value v t) -ℤ pos 1)
minus_less_one-comes v t = fit-comes v (plus_times (negsuc 0) t (constant_of (negsuc 0))) _ (omega (arith, ints, value-plus_times (negsuc 0) t (constant_of (negsuc 0)) v))

minus-comes : (v : ℕ → ℤ) (t : Linear) → Comes v (minus t) (neg_ℤ (value v t))
minus-comes v t = fit-comes v (plus_times (negsuc 0) t (constant_of (pos 0))) _ (omega (arith, ints, value-plus_times (negsuc 0) t (constant_of (pos 0)) v))

minus_shown : (v : ℕ → ℤ) (env : Env) (t : Linear) → Meets env v → shown_in env (minus t) ≡ true → value v t ≤ℤ pos 0
minus_shown v env t m e = omega (arith, ints, shown_in-sound env v (minus t) (neg_ℤ (value v t)) m (minus-comes v t) e)

below_by : (v : ℕ → ℤ) (env : Env) (t : Linear) (b : Bool) → Meets env v → value v t ≢ pos 0 → shown_in env (minus t) ≡ b → Gives v env (cond b (learnt_if env (minus_less_one t)) (excluding env t (excluded t)))
below_by v env t true m n e = learnt_if-gives v env (minus_less_one t) _ m (minus_less_one-comes v t) (omega (arith, ints, minus_shown v env t m e, n))
below_by v env t false m n e = excluding-gives v env t (excluded t) m n (λ x q. excluded-not v t x n q)

above_by : (v : ℕ → ℤ) (env : Env) (t : Linear) (b : Bool) → Meets env v → value v t ≢ pos 0 → shown_in env (Some t) ≡ b → Gives v env (cond b (learnt_if env (less_one t)) (cond (shown_in env (minus t)) (learnt_if env (minus_less_one t)) (excluding env t (excluded t))))
above_by v env t true m n e = learnt_if-gives v env (less_one t) _ m (less_one-comes v t) (omega (arith, ints, shown_in-sound env v (Some t) (value v t) m (some-comes v t) e, n))
above_by v env t false m n e = below_by v env t (shown_in env (minus t)) m n refl

ne_by : (v : ℕ → ℤ) (env : Env) (t : Linear) (b : Bool) → Meets env v → value v t ≢ pos 0 → Gives v env (cond b (Ok env) (cond (shown_in env (Some t)) (learnt_if env (less_one t)) (cond (shown_in env (minus t)) (learnt_if env (minus_less_one t)) (excluding env t (excluded t)))))
ne_by v env t true m n = ok-gives v env m
ne_by v env t false m n = above_by v env t (shown_in env (Some t)) m n refl

pub learnt_ne-gives : (v : ℕ → ℤ) (env : Env) (t : Linear) → Meets env v → value v t ≢ pos 0 → Gives v env (learnt_ne env t)
learnt_ne-gives v env t m n = ne_by v env t (nonzero_in env t) m n

pub learnt-gives : (v : ℕ → ℤ) (env : Env) (c : Ineq) → Meets env v → Holds v c → Gives v env (learnt env c)
learnt-gives v env (Ge t) m h = learnt_ge-gives v env t m h
learnt-gives v env (Ne t) m h = learnt_ne-gives v env t m h

-- ---- what stands
access_by : (run : Run) (v : ℕ → ℤ) (env : Env) (rs : List Span) (cs : List Ineq) (locals : List (Option ℤ)) (memory : List Region) → Meets (record env { ranges = rs; conds = cs }) v → StandsAtAccess run v env locals memory → StandsAtAccess run v (record env { ranges = rs; conds = cs }) locals memory
access_by run v env rs cs locals memory m S =
    record {
      locals_stand = S.locals_stand;
      ranges = m.ranges;
      conds = m.conds;
      anchors = S.anchors;
      memory_stands = S.memory_stands;
      extends = S.extends;
      fresh = S.fresh;
      fresh_apart = S.fresh_apart;
      facts = S.facts;
      staged = S.staged;
      regions = S.regions;
      cells = S.cells;
    }

pub learns-access : (run : Run) (v : ℕ → ℤ) (env next : Env) (locals : List (Option ℤ)) (memory : List Region) → Learns v env next → StandsAtAccess run v env locals memory → StandsAtAccess run v next locals memory
learns-access run v env next locals memory l S =
    subst (λ (x : Env). StandsAtAccess run v x locals memory) (sym l.is) (access_by run v env l.rs l.cs locals memory l.meets S)

pub learns-stands : (run : Run) (v : ℕ → ℤ) (env next : Env) (locals : List (Option ℤ)) (memory : List Region) → Learns v env next → Stands run v env locals memory → Stands run v next locals memory
learns-stands run v env next locals memory l S =
    subst (λ (x : Env). Stands run v x locals memory) (sym l.is) (record { at_access = access_by run v env l.rs l.cs locals memory l.meets S.at_access; private = S.private })

pub access-meets : (run : Run) (v : ℕ → ℤ) (env : Env) (locals : List (Option ℤ)) (memory : List Region) → StandsAtAccess run v env locals memory → Meets env v
access-meets run v env locals memory S = record { ranges = S.ranges; conds = S.conds }

pub learnt-keeps : (env : Env) (c : Ineq) (next : Env) → learnt env c ≡ Ok next → KeepsWhere env next (λ v. Holds v c)
learnt-keeps env c next e run v h =
    record {
      at_access = λ locals memory S. learns-access run v env next locals memory (learnt-gives v env c (access-meets run v env locals memory S) h next e) S;
      stands = λ locals memory S. learns-stands run v env next locals memory (learnt-gives v env c (access-meets run v env locals memory S.at_access) h next e) S;
    }

-- what is true of the meant state is true of the one that is given
pub agrees-ok : (a meant : Answer) (P : Env → Type 0) → Agrees a meant → ((next : Env) → meant ≡ Ok next → P next) → IfOk a P
agrees-ok (Ok env) meant P h k = k env h
agrees-ok (Err NoMemory) meant P h k = tt
agrees-ok (Err (Limit kind)) meant P h k = tt
