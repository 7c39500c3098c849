-- The meet of two ranges: its ends and its step.
use Rattle.std.specs.Prelude.{◌≡◌, ℕ, zero, suc, ℤ, pos, neg_ℤ, ◌+ℤ◌, ◌-ℤ◌, ◌*ℤ◌, ◌≤ℤ◌, ◌<ℤ◌, ◌<◌, ◌≤◌, ◌*◌, ◌/◌, ◌%◌, ◌-◌, ◌^◌, unsigned_abs, Bool, true, false, nat_lt}
use Rattle.std.specs.Int.{◌∣◌, int_rem_euclid}
use Rattle.std.proofs.Common.{arith, refl, sym, ap, ◌∙◌, cond}
use Rattle.std.proofs.lemmas.Int.{ints}
use Rattle.std.proofs.lemmas.Nat.{mod_below}
use Rattle.std.proofs.Math.Nat.{mul-div_cancel', mul-div_cancel_left}
use Rattle.std.proofs.lemmas.Bool.Decides.{nat_tests}
use Rattle.cx_term.proofs.Ring.{mul_assoc, mul-sub_left}
use Rattle.cx_entail.specs.Ranges.{Congruent, Span}
use Rattle.cx_entail.specs.Joins.{gcd, lesser}
use Rattle.cx_entail.specs.Meets.{IsInverse, IsStep, Both, IsLeastOfBoth, IsGreatestOfBoth, IsMeet, lcm, met_span}
use Rattle.cx_entail.proofs.Congruences.{congruent_sym, congruent_trans}
use Rattle.cx_entail.proofs.Euclid.{split, not_negative, scaled_up}
use Rattle.cx_entail.proofs.GcdLaws.{gcd-only}
use Rattle.cx_entail.proofs.MeetLaws.{cancels, divided, lesser_is, lesser_from}
use lib.Signed.{le_z}

-- congruent by a product is congruent by its first factor
factor_congruent : (m k : ℕ) (a b : ℤ) → Congruent (m * k) a b → Congruent m a b
factor_congruent m k a b h = (pos k *ℤ h.0, omega (arith, ints, h.1, mul_assoc (pos m) (pos k) h.0))

-- what is 0 by both moduli is 0 by m times k, where n is g times k
both_zero : (m n g s k : ℕ) (x : ℤ) → 0 < g → IsInverse m n g s → g * k ≡ n → Congruent m x (pos 0) → Congruent n x (pos 0) → Congruent (m * k) x (pos 0)
both_zero m n g s k x p i e c d =
    let j = c.0 in
    let f : x ≡ pos m *ℤ j = omega (arith, ints, c.1) in
    let w = cancels m n g s j i (rw f at d) in
    let w' : Congruent (g * k) (pos g *ℤ j) (pos 0) = rw e w in
    let v = divided g k j p w' in
    let q : j ≡ pos k *ℤ v.0 = omega (arith, ints, v.1) in
    (v.0, f ∙ ap (λ y. pos m *ℤ y) q ∙ omega (arith, ints, mul_assoc (pos m) (pos k) v.0))

-- m times k is n times the number that g divides m into
swapped : (m n g k : ℕ) → g ∣ m → g * k ≡ n → m * k ≡ n * (m / g)
swapped m n g k d e = ap (λ x. x * k) (sym (mul-div_cancel' g d)) ∙ turned g (m / g) k ∙ ap (λ x. x * (m / g)) e
  where
    turned : (g q k : ℕ) → g * q * k ≡ g * k * q
    turned g q k = omega arith

quotient_is : (g k n : ℕ) → 0 < g → g * k ≡ n → k ≡ n / g
quotient_is g k n p e = let f : g * k / g ≡ k = mul-div_cancel_left k p in rw (← e) (sym f)

-- the step of the common numbers is the lcm
pub lcm-is : (m n g s k : ℕ) → 0 < g → IsInverse m n g s → g * k ≡ n → m * k ≡ lcm m n
lcm-is m n g s k p i e =
    let f : g ≡ gcd m n = gcd-only m n g i.gcd in
    let h : k ≡ n / gcd m n = rw (← f) (quotient_is g k n p e) in
    ap (λ x. m * x) h

congruent_sub : (m : ℕ) (a b : ℤ) → Congruent m a b → Congruent m (a -ℤ b) (pos 0)
congruent_sub m a b h = (h.0, omega (arith, ints, h.1))

congruent_back : (m : ℕ) (a b : ℤ) → Congruent m (a -ℤ b) (pos 0) → Congruent m a b
congruent_back m a b h = (h.0, omega (arith, ints, h.1))

-- two common numbers are congruent by the step
pub both-congruent : (a b : Span) (g s k : ℕ) (v w : ℤ) → 0 < g → IsInverse a.m b.m g s → g * k ≡ b.m → Both a b v → Both a b w → Congruent (a.m * k) w v
both-congruent a b g s k v w p i e h l =
    congruent_back (a.m * k) w v (both_zero a.m b.m g s k (w -ℤ v) p i e
    (congruent_sub a.m w v (congruent_trans a.m w (pos a.r) v l.0.rest (congruent_sym a.m v (pos a.r) h.0.rest)))
    (congruent_sub b.m w v (congruent_trans b.m w (pos b.r) v l.1.rest (congruent_sym b.m v (pos b.r) h.1.rest))))

-- a number that is congruent to a common one by the step, and lies between two common ones, is common
pub between-both : (a b : Span) (g s k : ℕ) (v w h : ℤ) → IsInverse a.m b.m g s → g * k ≡ b.m → Both a b v → Both a b h → v ≤ℤ w → w ≤ℤ h → Congruent (a.m * k) w v → Both a b w
between-both a b g s k v w h i e x y l u c =
    let c' : Congruent (b.m * (a.m / g)) w v = rw (swapped a.m b.m g k i.gcd.0 e) at c in (
      record { step = x.0.step; low = omega (arith, ints, l, x.0.low); high = omega (arith, ints, u, y.0.high); rest = congruent_trans a.m w v (pos a.r) (factor_congruent a.m k w v c) x.0.rest },
      record { step = x.1.step; low = omega (arith, ints, l, x.1.low); high = omega (arith, ints, u, y.1.high); rest = congruent_trans b.m w v (pos b.r) (factor_congruent b.m (a.m / g) w v c') x.1.rest },
    )

-- the last number up to hi in steps of n from v on
pub last_step : (n d : ℕ) (v w hi : ℤ) → 0 < n → v +ℤ pos d ≡ hi → v ≤ℤ w → w ≤ℤ hi → Congruent n w v → w ≤ℤ (v +ℤ pos (d - d % n))
last_step n d v w hi p e l u c =
    let r = mod_below d n p in
    let x = pos (d / n) -ℤ c.0 in
    let g : neg_ℤ (pos n) <ℤ (pos n *ℤ x) = omega (arith, ints, mul-sub_left (pos n) (pos (d / n)) c.0, c.1, e, u, r) in
    omega (arith, ints, scaled_up n x (not_negative n x g), mul-sub_left (pos n) (pos (d / n)) c.0, c.1)

pub step_congruent : (n d : ℕ) (v : ℤ) → 0 < n → Congruent n (v +ℤ pos (d - d % n)) v
step_congruent n d v p = (pos (d / n), omega (arith, ints, mod_below d n p))

same_step : (m n : ℕ) (x y : ℤ) → m ≡ n → Congruent m x y → Congruent n x y
same_step m n x y e h = rw (← e) h

-- the greatest common number
pub greatest : (a b : Span) (g s k d : ℕ) (v : ℤ) → 0 < g → 0 < a.m * k → IsInverse a.m b.m g s → g * k ≡ b.m → IsLeastOfBoth a b v → v +ℤ pos d ≡ lesser a.hi b.hi → IsGreatestOfBoth a b (v +ℤ pos (d - d % (a.m * k)))
greatest a b g s k d v p q i e h f =
    let hi = lesser_from a.hi b.hi (le_z a.hi b.hi) refl in
    let n = a.m * k in
    let t = v +ℤ pos (d - d % n) in
    let c = step_congruent n d v q in
    let c' : Congruent (b.m * (a.m / g)) t v = same_step n (b.m * (a.m / g)) t v (swapped a.m b.m g k i.gcd.0 e) c in
    let u : t ≤ℤ lesser a.hi b.hi = omega (arith, ints, f) in
    record {
      both = (
        record { step = h.both.0.step; low = omega (arith, ints, h.both.0.low); high = omega (arith, ints, u, hi.0); rest = congruent_trans a.m t v (pos a.r) (factor_congruent a.m k t v c) h.both.0.rest },
        record { step = h.both.1.step; low = omega (arith, ints, h.both.1.low); high = omega (arith, ints, u, hi.1); rest = congruent_trans b.m t v (pos b.r) (factor_congruent b.m (a.m / g) t v c') h.both.1.rest },
      );
      greatest = λ w l. last_step n d v w (lesser a.hi b.hi) q f (h.least w l) (lesser_is a.hi b.hi w (le_z a.hi b.hi) refl l.0.high l.1.high) (both-congruent a b g s k v w p i e h.both l);
    }

-- the meet where the lcm is a step
pub met_whole : (a b : Span) (g s k r : ℕ) (v h : ℤ) → 0 < g → 0 < a.m * k → IsInverse a.m b.m g s → g * k ≡ b.m → IsLeastOfBoth a b v → IsGreatestOfBoth a b h → a.m * k < 2 ^ 64 → pos r ≡ int_rem_euclid v (pos (a.m * k)) → IsMeet a b (record { lo = v; hi = h; m = a.m * k; r = r })
met_whole a b g s k r v h p q i e x y small f =
    let n = a.m * k in
    let z = split v n q in
    let c : Congruent n v (pos r) = (z.q, omega (arith, ints, z.sum, z.is, f)) in
    record {
      low = x;
      high = y;
      has = λ w l. record { step = q; low = x.least w l; high = y.greatest w l; rest = congruent_trans n w v (pos r) (both-congruent a b g s k v w p i e x.both l) c };
      exact = λ t w l. between-both a b g s k v w h i e x.both y.both l.low l.high (congruent_trans n w (pos r) v l.rest (congruent_sym n v (pos r) c));
      modulus = λ t. lcm-is a.m b.m g s k p i e;
      first = λ t. absurd (let u : a.m * k ≡ lcm a.m b.m = lcm-is a.m b.m g s k p i e in omega (arith, t, u, small));
    }

-- the meet where the lcm is none
pub met_first : (a b : Span) (g s k : ℕ) (v h : ℤ) → 0 < g → IsInverse a.m b.m g s → g * k ≡ b.m → IsLeastOfBoth a b v → IsGreatestOfBoth a b h → 2 ^ 64 ≤ a.m * k → IsMeet a b (record { lo = v; hi = h; m = a.m; r = a.r })
met_first a b g s k v h p i e x y large =
    let u : a.m * k ≡ lcm a.m b.m = lcm-is a.m b.m g s k p i e in
    record {
      low = x;
      high = y;
      has = λ w l. record { step = l.0.step; low = x.least w l; high = y.greatest w l; rest = l.0.rest };
      exact = λ t w l. absurd (omega (arith, t, u, large));
      modulus = λ t. absurd (omega (arith, t, u, large));
      first = λ t. (refl, refl);
    }

whole_rest : (v : ℤ) (n : ℕ) → 0 < n → pos (unsigned_abs (int_rem_euclid v (pos n))) ≡ int_rem_euclid v (pos n)
whole_rest v n p = let z = split v n p in rw z.is refl

met_by : (a b : Span) (g s k : ℕ) (v h : ℤ) (t : Bool) → nat_lt (a.m * k) (2 ^ 64) ≡ t → 0 < g → 0 < a.m * k → IsInverse a.m b.m g s → g * k ≡ b.m → IsLeastOfBoth a b v → IsGreatestOfBoth a b h → IsMeet a b (cond t (record { lo = v; hi = h; m = a.m * k; r = unsigned_abs (int_rem_euclid v (pos (a.m * k))) }) (record { lo = v; hi = h; m = a.m; r = a.r }))
met_by a b g s k v h true e p q i w x y = met_whole a b g s k (unsigned_abs (int_rem_euclid v (pos (a.m * k)))) v h p q i w x y (below e) (whole_rest v (a.m * k) q)
  where
    below : nat_lt (a.m * k) (2 ^ 64) ≡ true → a.m * k < 2 ^ 64
    below e = grind (arith, nat_tests)
met_by a b g s k v h false e p q i w x y = met_first a b g s k v h p i w x y (above e)
  where
    above : nat_lt (a.m * k) (2 ^ 64) ≡ false → 2 ^ 64 ≤ a.m * k
    above e = grind (arith, nat_tests)

met_step : (a b : Span) (n d : ℕ) (v : ℤ) (z : IsStep a b n) → n ≡ a.m * z.k → IsLeastOfBoth a b v → v +ℤ pos d ≡ lesser a.hi b.hi → IsMeet a b (met_span a v (v +ℤ pos (d - d % n)) n)
met_step a b n d v z e x f =
    let q : 0 < a.m * z.k = rw e at z.positive in
    let y = greatest a b z.g z.s z.k d v z.g_positive q z.inverse z.whole x f in
    rw e (met_by a b z.g z.s z.k v (v +ℤ pos (d - d % (a.m * z.k))) (nat_lt (a.m * z.k) (2 ^ 64)) refl z.g_positive q z.inverse z.whole x y)

-- the meet from its least number and its step
pub met_is : (a b : Span) (n : ℕ) (v : ℤ) → IsStep a b n → IsLeastOfBoth a b v → IsMeet a b (met_span a v (v +ℤ pos (unsigned_abs (lesser a.hi b.hi -ℤ v) - unsigned_abs (lesser a.hi b.hi -ℤ v) % n)) n)
met_is a b n v z x =
    let l = lesser_is a.hi b.hi v (le_z a.hi b.hi) refl x.both.0.high x.both.1.high in
    met_step a b n (unsigned_abs (lesser a.hi b.hi -ℤ v)) v z z.is x (omega (arith, ints, l))

pub least_up_to : (a b : Span) (v : ℤ) → IsLeastOfBoth a b v → v ≤ℤ lesser a.hi b.hi
least_up_to a b v x = lesser_is a.hi b.hi v (le_z a.hi b.hi) refl x.both.0.high x.both.1.high

product_positive : (m k : ℕ) → 0 < m → 0 < k → 0 < m * k
product_positive m zero p q = absurd (omega arith)
product_positive zero (suc k) p q = absurd (omega arith)
product_positive (suc m) (suc k) p q = omega arith

-- the step from what the search for it gives
pub step_is : (a b : Span) (g s k x y : ℕ) → 0 < a.m → 0 < g → 0 < k → IsInverse a.m b.m g s → g * k ≡ b.m → x ≡ a.m → y ≡ k → IsStep a b (x * y)
step_is a b g s k x y p q r i w e f =
    rw (e, f) (record { g = g; s = s; k = k; g_positive = q; inverse = i; whole = w; is = refl; positive = product_positive a.m k p r })
