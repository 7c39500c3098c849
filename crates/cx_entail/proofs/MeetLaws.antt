-- The common numbers of two ranges: two congruences at once.
use Rattle.std.specs.Prelude.{◌≡◌, ◌≢◌, ℕ, zero, suc, ℤ, pos, negsuc, neg_ℤ, ◌+ℤ◌, ◌-ℤ◌, ◌*ℤ◌, ◌≤ℤ◌, ◌<◌, ◌≤◌, ◌*◌, ◌/◌, ◌%◌, ◌+◌, ◌-◌}
use Rattle.std.specs.Int.{◌∣◌, int_rem_euclid}
use Rattle.std.specs.Prelude.{Bool, true, false, Option, Some, None, MatchOption, ◌<ℤ◌}
use Rattle.std.proofs.Common.{arith, refl, sym, ap, ◌∙◌, cond}
use lib.Signed.{le_z}
use Rattle.cx_entail.specs.Ranges.{Congruent, Span, Has, first}
use Rattle.cx_entail.specs.Joins.{lesser, greater}
use Rattle.cx_entail.specs.Meets.{IsInverse, Both, from, IsMultiple, IsLeastOfBoth, HaveNone}
use Rattle.std.proofs.lemmas.Int.{ints}
use Rattle.std.proofs.lemmas.Nat.{mod_below}
use Rattle.std.proofs.Math.IntN.{*ℤ_comm, *ℤ-zero}
use Rattle.std.proofs.Math.Nat.{mul-div_cancel', le_of_mul-le-mul_left}
use Rattle.cx_term.proofs.Ring.{mul_assoc, mul-add_left, mul-sub_left}
use Rattle.cx_entail.proofs.Congruences.{congruent_sym, congruent_trans, congruent_divisor, congruent_mod, congruent_add, congruent_neg, congruent_times, rest_zero}
use Rattle.cx_entail.proofs.Euclid.{split, not_negative, scaled_up}
use Rattle.cx_entail.proofs.RangeLaws.{first-congruent, first-le, first-lo}

-- the multiple that solves two congruences: m * t is d modulo n, where m * s is g modulo n and d is g * e
pub solves : (m n g s : ℕ) (d e : ℤ) → IsInverse m n g s → d ≡ pos g *ℤ e → Congruent n (pos m *ℤ (pos s *ℤ e)) d
solves m n g s d e i h =
    let c = congruent_times n e (pos m *ℤ pos s) (pos g) i.times in
    let a : e *ℤ (pos m *ℤ pos s) ≡ pos m *ℤ (pos s *ℤ e) = *ℤ_comm e (pos m *ℤ pos s) ∙ mul_assoc (pos m) (pos s) e in
    let b : e *ℤ pos g ≡ d = *ℤ_comm e (pos g) ∙ sym h in
    rw (← a, ← b) c

pub less_step : (s q t b : ℕ) → 0 < b → Congruent b (pos ((s + b - (q * t) % b) % b)) (pos s -ℤ (pos q *ℤ pos t))
less_step s q t b p =
    let x = (q * t) % b in
    let l : x < b = mod_below (q * t) b p in
    let a = congruent_mod b (s + b - x) in
    let c : Congruent b (pos (s + b - x)) (pos s -ℤ (pos q *ℤ pos t)) = (pos 1 +ℤ pos ((q * t) / b), omega (arith, ints, mul-add_left (pos b) (pos 1) (pos ((q * t) / b)), l)) in
    congruent_trans b _ (pos (s + b - x)) _ a c

-- one step of Euclid's keeps what the multiplier gives
pub step_keeps : (a b r n s t next q : ℕ) → q ≡ r / n → Congruent b (pos a *ℤ pos s) (pos r) → Congruent b (pos a *ℤ pos t) (pos n) → Congruent b (pos next) (pos s -ℤ (pos q *ℤ pos t)) → Congruent b (pos a *ℤ pos next) (pos (r % n))
step_keeps a b r n s t next q e f g h =
    let u = congruent_times b (pos a) (pos next) (pos s -ℤ (pos q *ℤ pos t)) h in
    let v : Congruent b ((pos a *ℤ pos s) +ℤ neg_ℤ (pos q *ℤ (pos a *ℤ pos t))) ((pos r) +ℤ neg_ℤ (pos q *ℤ pos n)) = congruent_add b (pos a *ℤ pos s) (pos r) (neg_ℤ (pos q *ℤ (pos a *ℤ pos t))) (neg_ℤ (pos q *ℤ pos n)) f (congruent_neg b (pos q *ℤ (pos a *ℤ pos t)) (pos q *ℤ pos n) (congruent_times b (pos q) (pos a *ℤ pos t) (pos n) g)) in
    let w : pos a *ℤ (pos s -ℤ (pos q *ℤ pos t)) ≡ (pos a *ℤ pos s) +ℤ neg_ℤ (pos q *ℤ (pos a *ℤ pos t)) = omega (arith, ints, mul-sub_left (pos a) (pos s) (pos q *ℤ pos t)) in
    let x : (pos r) +ℤ neg_ℤ (pos q *ℤ pos n) ≡ pos (r % n) = rw e (omega (arith, ints)) in
    rw x at (congruent_trans b (pos a *ℤ pos next) (pos a *ℤ (pos s -ℤ (pos q *ℤ pos t))) ((pos r) +ℤ neg_ℤ (pos q *ℤ pos n)) u (rw w v))

pub first_step : (a b : ℕ) → Congruent b (pos a *ℤ pos (1 % b)) (pos a)
first_step a b = let c = congruent_times b (pos a) (pos (1 % b)) (pos 1) (congruent_mod b 1) in congruent_trans b (pos a *ℤ pos (1 % b)) (pos a *ℤ pos 1) (pos a) c (pos 0, omega (arith, ints))

pub second_step : (a b : ℕ) → Congruent b (pos a *ℤ pos 0) (pos b)
second_step a b = (negsuc 0, omega (arith, ints))

-- a common divisor of the steps divides the distance of any two numbers that agree with both
pub common_divides : (g m n : ℕ) (a b x : ℤ) → g ∣ m → g ∣ n → Congruent m x a → Congruent n x b → Congruent g b a
common_divides g m n a b x p q c d =
    congruent_trans g b x a (congruent_sym g x b (congruent_divisor g n x b q d)) (congruent_divisor g m x a p c)

-- cancelling: where m * x is 0 modulo n and m * s is g, then g * x is 0 modulo n
pub cancels : (m n g s : ℕ) (x : ℤ) → IsInverse m n g s → Congruent n (pos m *ℤ x) (pos 0) → Congruent n (pos g *ℤ x) (pos 0)
cancels m n g s x i c =
    let u : Congruent n (x *ℤ (pos m *ℤ pos s)) (x *ℤ pos g) = congruent_times n x (pos m *ℤ pos s) (pos g) i.times in
    let v : Congruent n (pos s *ℤ (pos m *ℤ x)) (pos s *ℤ pos 0) = congruent_times n (pos s) (pos m *ℤ x) (pos 0) c in
    let e : x *ℤ (pos m *ℤ pos s) ≡ pos s *ℤ (pos m *ℤ x) = *ℤ_comm x (pos m *ℤ pos s) ∙ ap (λ y. y *ℤ x) (*ℤ_comm (pos m) (pos s)) ∙ mul_assoc (pos s) (pos m) x in
    let w : Congruent n (pos s *ℤ (pos m *ℤ x)) (x *ℤ pos g) = rw e at u in
    let z : pos s *ℤ pos 0 ≡ pos 0 = *ℤ-zero (pos s) in
    let y : Congruent n (pos s *ℤ (pos m *ℤ x)) (pos 0) = rw z at v in
    rw (*ℤ_comm (pos g) x) (congruent_trans n (x *ℤ pos g) (pos s *ℤ (pos m *ℤ x)) (pos 0) (congruent_sym n _ _ w) y)

cancel_nat : (g a b : ℕ) → 0 < g → g * a ≡ g * b → a ≡ b
cancel_nat g a b p e =
    let l : g * a ≤ g * b = omega arith in
    let m : g * b ≤ g * a = omega arith in
    omega (arith, le_of_mul-le-mul_left l p, le_of_mul-le-mul_left m p)

cancel_left : (g : ℕ) (x y : ℤ) → 0 < g → pos g *ℤ x ≡ pos g *ℤ y → x ≡ y
cancel_left g (pos a) (pos b) p e = ap pos (cancel_nat g a b p (omega (arith, ints, e)))
cancel_left g (pos a) (negsuc b) p e = absurd (omega (arith, ints, e))
cancel_left g (negsuc a) (pos b) p e = absurd (omega (arith, ints, e))
cancel_left g (negsuc a) (negsuc b) p e = let f : suc a ≡ suc b = cancel_nat g (suc a) (suc b) p (omega (arith, ints, e)) in ap negsuc (omega arith)

least_by : (k t : ℕ) (x j : ℤ) → t < k → pos 0 ≤ℤ x → x ≡ pos t +ℤ pos k *ℤ j → pos t ≤ℤ x
least_by k t x (pos n) l p e = omega (arith, ints, e)
least_by k t x (negsuc n) l p e = absurd (omega (arith, ints, e))

-- g * x a multiple of g * k makes x a multiple of k
pub divided : (g k : ℕ) (x : ℤ) → 0 < g → Congruent (g * k) (pos g *ℤ x) (pos 0) → Congruent k x (pos 0)
divided g k x p c =
    (c.0, omega (arith, ints, cancel_left g x (pos k *ℤ c.0) p (c.1 ∙ omega (arith, ints, mul_assoc (pos g) (pos k) c.0))))

-- two numbers that are congruent, of which one is below k and none is negative, are in order
pub least-of : (k t : ℕ) (x : ℤ) → t < k → pos 0 ≤ℤ x → Congruent k x (pos t) → pos t ≤ℤ x
least-of k t x l p c = least_by k t x c.0 l p c.1

-- ---- the step is a multiple

pub no_multiple : (d : ℤ) (g r : ℕ) → 0 < g → pos r ≡ int_rem_euclid d (pos g) → r ≢ 0 → (e : ℤ) → d ≢ (pos g *ℤ e)
no_multiple d g r p h n e f =
    let s = split d g p in
    let i : r ≡ s.n = omega (arith, ints, h, s.is) in
    n (i ∙ rest_zero g s.n (e -ℤ s.q) s.below (omega (arith, ints, f, s.sum, mul-sub_left (pos g) e s.q)))

pub is_multiple : (d e : ℤ) (g s k n t : ℕ) → 0 < k → d ≡ pos g *ℤ e → pos n ≡ int_rem_euclid e (pos k) → t ≡ (s * n) % k → t < k → IsMultiple d g s k t
is_multiple d e g s k n t p w h f l =
    let q = split e k p in
    let i : pos n ≡ pos q.n = h ∙ q.is in
    let c : Congruent k (pos n) e = rw i (congruent_sym k e (pos q.n) (q.q, q.sum)) in
    let m : Congruent k (pos t) (pos (s * n)) = rw f (congruent_mod k (s * n)) in
    record { below = l; e = e; whole = w; same = congruent_trans k (pos t) (pos (s * n)) (pos s *ℤ e) m (congruent_times k (pos s) (pos n) e c) }

-- ---- the least number in both
pub from-has : (l : ℤ) (a : Span) (w : ℤ) → l ≤ℤ w → Has a w → Has (from l a) w
from-has l a w h g = record { step = g.step; low = h; high = g.high; rest = g.rest }

-- a number from the first one on is that one and some steps
steps_from : (a : Span) (w : ℤ) → 0 < a.m → Has a w → (j : ℤ) × (w ≡ first a +ℤ (pos a.m *ℤ j)) × (pos 0 ≤ℤ j)
steps_from a w p h =
    let c = congruent_trans a.m w (pos a.r) (first a) h.rest (congruent_sym a.m (first a) (pos a.r) (first-congruent a p)) in
    let l = first-le a w p h in
    (c.0, c.1, not_negative a.m c.0 (omega (arith, ints, c.1, l)))

pub met_second : (m n g s k t : ℕ) (d : ℤ) → IsInverse m n g s → g * k ≡ n → IsMultiple d g s k t → Congruent n (pos m *ℤ pos t) d
met_second m n g s k t d i e u =
    let a : pos m ≡ pos g *ℤ pos (m / g) = ap pos (sym (mul-div_cancel' g i.gcd.0)) in
    let n' : pos n ≡ pos g *ℤ pos k = ap pos (sym e) in
    let j = u.same.0 in
    let b : pos m *ℤ pos t ≡ pos m *ℤ (pos s *ℤ u.e) +ℤ pos m *ℤ (pos k *ℤ j) = ap (λ x. pos m *ℤ x) u.same.1 ∙ mul-add_left (pos m) (pos s *ℤ u.e) (pos k *ℤ j) in
    let c : pos m *ℤ (pos k *ℤ j) ≡ pos n *ℤ (pos (m / g) *ℤ j) =
    ap (λ x. x *ℤ (pos k *ℤ j)) a ∙ mul_assoc (pos g) (pos (m / g)) (pos k *ℤ j) ∙ ap (λ x. pos g *ℤ x) (sym (mul_assoc (pos (m / g)) (pos k) j) ∙ ap (λ x. x *ℤ j) (*ℤ_comm (pos (m / g)) (pos k)) ∙ mul_assoc (pos k) (pos (m / g)) j) ∙ sym (mul_assoc (pos g) (pos k) (pos (m / g) *ℤ j)) ∙ ap (λ x. x *ℤ (pos (m / g) *ℤ j)) (sym n') in
    congruent_trans n (pos m *ℤ pos t) (pos m *ℤ (pos s *ℤ u.e)) d (pos (m / g) *ℤ j, b ∙ ap (λ x. (pos m *ℤ (pos s *ℤ u.e)) +ℤ x) c) (solves m n g s d u.e i u.whole)

pub met_least : (m n g s k t : ℕ) (d j : ℤ) → 0 < g → IsInverse m n g s → g * k ≡ n → IsMultiple d g s k t → pos 0 ≤ℤ j → Congruent n (pos m *ℤ j) d → pos t ≤ℤ j
met_least m n g s k t d j p i e u l c =
    let f = congruent_trans n (pos m *ℤ j) d (pos m *ℤ pos t) c (congruent_sym n (pos m *ℤ pos t) d (met_second m n g s k t d i e u)) in
    let z : Congruent n (pos m *ℤ (j -ℤ pos t)) (pos 0) = (f.0, omega (arith, ints, f.1, mul-sub_left (pos m) j (pos t))) in
    let w = cancels m n g s (j -ℤ pos t) i z in
    let w' : Congruent (g * k) (pos g *ℤ (j -ℤ pos t)) (pos 0) = rw e w in
    let v = divided g k (j -ℤ pos t) p w' in
    least-of k t j u.below l (v.0, omega (arith, ints, v.1))

-- the number that the steps lead to
pub record IsMet (a b : Span) (v : ℤ) : Type 0 where
  pub first : Congruent a.m v (pos a.r)
  pub second : Congruent b.m v (pos b.r)
  pub least : (w : ℤ) → Both a b w → v ≤ℤ w

pub met : (a b : Span) (l : ℤ) (g s k t : ℕ) → 0 < a.m → 0 < b.m → ((w : ℤ) → a.lo ≤ℤ w → b.lo ≤ℤ w → l ≤ℤ w) → 0 < g → IsInverse a.m b.m g s → g * k ≡ b.m → IsMultiple (first (from l b) -ℤ first (from l a)) g s k t → IsMet a b (first (from l a) +ℤ (pos a.m *ℤ pos t))
met a b l g s k t p q top gp i e u =
    let x = first (from l a) in
    let y = first (from l b) in
    let d = y -ℤ x in
    let cx = first-congruent (from l a) p in
    let cy = first-congruent (from l b) q in
    let c2 = met_second a.m b.m g s k t d i e u in
    record {
      first = congruent_trans a.m (x +ℤ (pos a.m *ℤ pos t)) x (pos a.r) (pos t, refl) cx;
      second = congruent_trans b.m (x +ℤ (pos a.m *ℤ pos t)) y (pos b.r) (c2.0, omega (arith, ints, c2.1)) cy;
      least = λ w h.
          let lw = top w h.0.low h.1.low in
          let sa = steps_from (from l a) w p (from-has l a w lw h.0) in
          let sb = steps_from (from l b) w q (from-has l b w lw h.1) in
          let c : Congruent b.m (pos a.m *ℤ sa.0) d = (sb.0, omega (arith, ints, sa.1, sb.1)) in
          let o = met_least a.m b.m g s k t d sa.0 gp i e u sa.2 c in
          omega (arith, ints, sa.1, scaled_up a.m (sa.0 -ℤ pos t) (omega (arith, ints, o)), mul-sub_left (pos a.m) sa.0 (pos t));
    }

-- where the distance is no multiple of the greatest common divisor there is no common number
pub none_met : (a b : Span) (l : ℤ) (g s : ℕ) → 0 < a.m → 0 < b.m → ((w : ℤ) → a.lo ≤ℤ w → b.lo ≤ℤ w → l ≤ℤ w) → IsInverse a.m b.m g s → ((e : ℤ) → (first (from l b) -ℤ first (from l a)) ≢ (pos g *ℤ e)) → HaveNone a b
none_met a b l g s p q top i n w h =
    let x = first (from l a) in
    let y = first (from l b) in
    let lw = top w h.0.low h.1.low in
    let sa = steps_from (from l a) w p (from-has l a w lw h.0) in
    let sb = steps_from (from l b) w q (from-has l b w lw h.1) in
    let c = common_divides g a.m b.m x y w i.gcd.0 i.gcd.1 (sa.0, sa.1) (sb.0, sb.1) in
    n c.0 (omega (arith, ints, c.1))

pub factor_pos : (g k n : ℕ) → g * k ≡ n → 0 < n → 0 < k
factor_pos g zero n e p = absurd (omega arith)
factor_pos g (suc k) n e p = omega arith

greater_is : (a b w : ℤ) (t : Bool) → le_z a b ≡ t → a ≤ℤ w → b ≤ℤ w → cond t b a ≤ℤ w
greater_is a b w true e p q = q
greater_is a b w false e p q = p

greater_from : (a b : ℤ) (t : Bool) → le_z a b ≡ t → (a ≤ℤ cond t b a) × (b ≤ℤ cond t b a)
greater_from a b true e = (omega (arith, ints), omega (arith, ints))
greater_from a b false e = (omega (arith, ints), omega (arith, ints))

pub lesser_is : (a b w : ℤ) (t : Bool) → le_z a b ≡ t → w ≤ℤ a → w ≤ℤ b → w ≤ℤ cond t a b
lesser_is a b w true e p q = p
lesser_is a b w false e p q = q

pub lesser_from : (a b : ℤ) (t : Bool) → le_z a b ≡ t → (cond t a b ≤ℤ a) × (cond t a b ≤ℤ b)
lesser_from a b true e = (omega (arith, ints), omega (arith, ints))
lesser_from a b false e = (omega (arith, ints), omega (arith, ints))

-- the answer where there is a way
pub met_answer : (a b : Span) (g s k t : ℕ) (r : Option ℤ) → 0 < a.m → 0 < b.m → 0 < g → IsInverse a.m b.m g s → g * k ≡ b.m → IsMultiple (first (from (greater a.lo b.lo) b) -ℤ first (from (greater a.lo b.lo) a)) g s k t → MatchOption r (lesser a.hi b.hi <ℤ (first (from (greater a.lo b.lo) a) +ℤ (pos a.m *ℤ pos t))) (λ v. (v ≡ first (from (greater a.lo b.lo) a) +ℤ (pos a.m *ℤ pos t)) × (v ≤ℤ lesser a.hi b.hi)) → MatchOption r (HaveNone a b) (IsLeastOfBoth a b)
met_answer a b g s k t None p q gp i e u h =
    let m = met a b (greater a.lo b.lo) g s k t p q (λ w c d. greater_is a.lo b.lo w (le_z a.lo b.lo) refl c d) gp i e u in
    λ w c. let l = m.least w c in let o = lesser_is a.hi b.hi w (le_z a.hi b.hi) refl c.0.high c.1.high in omega (arith, ints, l, o, h)
met_answer a b g s k t (Some v) p q gp i e u h =
    let m = met a b (greater a.lo b.lo) g s k t p q (λ w c d. greater_is a.lo b.lo w (le_z a.lo b.lo) refl c d) gp i e u in
    let lo = greater_from a.lo b.lo (le_z a.lo b.lo) refl in
    let hi = lesser_from a.hi b.hi (le_z a.hi b.hi) refl in
    let x = first-lo (from (greater a.lo b.lo) a) p in
    let up = scaled_up a.m (pos t) (omega (arith, ints)) in
    record {
      both = (
        record { step = p; low = omega (arith, ints, h.0, lo.0, x, up); high = omega (arith, ints, h.1, hi.0); rest = rw h.0 m.first },
        record { step = q; low = omega (arith, ints, h.0, lo.1, x, up); high = omega (arith, ints, h.1, hi.1); rest = rw h.0 m.second },
      );
      least = rw h.0 m.least;
    }

pub none_answer : (a b : Span) (g s : ℕ) → 0 < a.m → 0 < b.m → IsInverse a.m b.m g s → ((e : ℤ) → (first (from (greater a.lo b.lo) b) -ℤ first (from (greater a.lo b.lo) a)) ≢ (pos g *ℤ e)) → HaveNone a b
none_answer a b g s p q i n = none_met a b (greater a.lo b.lo) g s p q (λ w c d. greater_is a.lo b.lo w (le_z a.lo b.lo) refl c d) i n
