-- How large the parts of a form grow.
use Rattle.std.specs.Prelude.{◌≡◌, ◌≢◌, ◌+◌, ◌^◌, ℕ, suc, ℤ, ◌+ℤ◌, ◌*ℤ◌, List, [], ◌∷◌, ◌<◌, ◌≤◌, Some, None, nat_lt, nat_le, Bool, true, false, unsigned_abs, length}
use Rattle.std.proofs.Common.{arith, refl, cond, eqb, get_or, zero}
use Rattle.std.proofs.lemmas.Int.{ints, unsigned_abs-mul}
use Rattle.std.proofs.lemmas.Bool.Decides.{nat_tests}
use Rattle.std.proofs.lemmas.Nat.{mul-le}
use Rattle.cx_term.specs.Forms.{Linear, IsTerm, within, value_parts, IsOrdered, all_within, parts_within}
use Rattle.cx_term.specs.Sums.{joined, here, with_part, with_parts, is_zero, AreUpTo}
use Rattle.cx_term.specs.Replaced.{without}
use Rattle.cx_term.proofs.Canonical.{delta}
use Rattle.cx_term.proofs.Tests.{and_left, and_right, and_both, not_true, le_true, true_le}
use Rattle.cx_term.proofs.Values.{value-with_parts}
use Rattle.cx_term.proofs.Canonical.{value-head, delta-other, ordered_with_parts, ordered_weaker}

pub up_to-weaker : (n m : ℕ) (ps : List (ℕ × ℤ)) → n ≤ m → AreUpTo n ps → AreUpTo m ps
up_to-weaker n m [] l h = tt
up_to-weaker n m (p ∷ ps) l h = (omega (arith, h.0), up_to-weaker n m ps l h.1)

up_to_keep_by : (n s : ℕ) (k : ℤ) (ps : List (ℕ × ℤ)) (z : Bool) → unsigned_abs k ≤ n → AreUpTo n ps → AreUpTo n (cond z ps ((s, k) ∷ ps))
up_to_keep_by n s k ps true l h = h
up_to_keep_by n s k ps false l h = (l, h)

abs-sum : (a b : ℤ) (n m : ℕ) → unsigned_abs a ≤ n → unsigned_abs b ≤ m → unsigned_abs (a +ℤ b) ≤ n + m
abs-sum a b n m g h = omega (arith, ints)

up_to_here_by : (n m s : ℕ) (k : ℤ) (p : ℕ × ℤ) (ps : List (ℕ × ℤ)) (t : Bool) → unsigned_abs k ≤ m → AreUpTo n (p ∷ ps) → AreUpTo (n + m) (joined (cond t (Some p.1) None) s k (p ∷ ps))
up_to_here_by n m s k p ps true l h = up_to_keep_by (n + m) s (p.1 +ℤ k) ps _ (abs-sum p.1 k n m h.0 l) (up_to-weaker n (n + m) ps (omega arith) h.1)
up_to_here_by n m s k p ps false l h = up_to_keep_by (n + m) s k (p ∷ ps) _ (omega arith) (up_to-weaker n (n + m) (p ∷ ps) (omega arith) h)

up_to_by : (n m s : ℕ) (k : ℤ) (p : ℕ × ℤ) (ps qs : List (ℕ × ℤ)) (t : Bool) → unsigned_abs k ≤ m → AreUpTo n (p ∷ ps) → AreUpTo (n + m) qs → AreUpTo (n + m) (cond t (p ∷ qs) (here s k (p ∷ ps)))
up_to_by n m s k p ps qs true l h ih = (omega (arith, h.0), ih)
up_to_by n m s k p ps qs false l h ih = up_to_here_by n m s k p ps (eqb p.0 s) l h

pub up_to-with_part : (n m s : ℕ) (k : ℤ) (ps : List (ℕ × ℤ)) → unsigned_abs k ≤ m → AreUpTo n ps → AreUpTo (n + m) (with_part s k ps)
up_to-with_part n m s k [] l h = up_to_keep_by (n + m) s k [] _ (omega arith) tt
up_to-with_part n m s k (p ∷ ps) l h = up_to_by n m s k p ps _ (nat_lt p.0 s) l h (up_to-with_part n m s k ps l h.1)

length_keep_by : (s : ℕ) (k : ℤ) (ps : List (ℕ × ℤ)) (z : Bool) → length (cond z ps ((s, k) ∷ ps)) ≤ length ps + 1
length_keep_by s k ps true = omega arith
length_keep_by s k ps false = omega arith

length_here_by : (s : ℕ) (k : ℤ) (p : ℕ × ℤ) (ps : List (ℕ × ℤ)) (t : Bool) → length (joined (cond t (Some p.1) None) s k (p ∷ ps)) ≤ length ps + 2
length_here_by s k p ps true = omega (arith, length_keep_by s (p.1 +ℤ k) ps (is_zero (p.1 +ℤ k)))
length_here_by s k p ps false = omega (arith, length_keep_by s k (p ∷ ps) (is_zero k))

length_by : (s : ℕ) (k : ℤ) (p : ℕ × ℤ) (ps qs : List (ℕ × ℤ)) (t : Bool) → length qs ≤ length ps + 1 → length (cond t (p ∷ qs) (here s k (p ∷ ps))) ≤ length ps + 2
length_by s k p ps qs true ih = omega arith
length_by s k p ps qs false ih = length_here_by s k p ps (eqb p.0 s)

pub length-with_part : (s : ℕ) (k : ℤ) (ps : List (ℕ × ℤ)) → length (with_part s k ps) ≤ length ps + 1
length-with_part s k [] = length_keep_by s k [] (is_zero k)
length-with_part s k (p ∷ ps) = omega (arith, length_by s k p ps _ (nat_lt p.0 s) (length-with_part s k ps))

-- ---- the coefficient of a symbol within the limits

pub up_to-all_within : (n : ℕ) (ps : List (ℕ × ℤ)) → all_within n ps ≡ true → AreUpTo n ps
up_to-all_within n [] e = tt
up_to-all_within n (p ∷ ps) e =
    let h = and_left (nat_le (unsigned_abs p.1) n) (all_within n ps) e in
    (grind (arith, nat_tests), up_to-all_within n ps (and_right (nat_le (unsigned_abs p.1) n) (all_within n ps) e))

coefficient_by : (n s : ℕ) (p : ℕ × ℤ) (ps : List (ℕ × ℤ)) (t : Bool) → eqb p.0 s ≡ t → IsOrdered (suc p.0) ps → unsigned_abs p.1 ≤ n → unsigned_abs (value_parts (delta s) ps) ≤ n → unsigned_abs (value_parts (delta s) (p ∷ ps)) ≤ n
coefficient_by n s p ps true e o l ih = let f : p.0 ≡ s = grind (arith, nat_tests) in rw (value-head s p ps f o) l
coefficient_by n s p ps false e o l ih =
    let f : p.0 ≢ s = grind (arith, nat_tests) in
    let d = delta-other s p.0 f in
    let g : value_parts (delta s) (p ∷ ps) ≡ value_parts (delta s) ps = rw d (omega (arith, ints)) in
    rw g ih

pub coefficient-le : (n b s : ℕ) (ps : List (ℕ × ℤ)) → IsOrdered b ps → AreUpTo n ps → unsigned_abs (value_parts (delta s) ps) ≤ n
coefficient-le n b s [] o h = omega arith
coefficient-le n b s (p ∷ ps) o h = coefficient_by n s p ps (eqb p.0 s) refl o.2 h.0 (coefficient-le n (suc p.0) s ps o.2 h.1)

-- a large factor makes a large coefficient
scaled : (k c x : ℤ) (n : ℕ) → n + n < unsigned_abs k → 0 < unsigned_abs c → unsigned_abs x ≤ n → n < unsigned_abs (k *ℤ c +ℤ x)
scaled k c x n l g h =
    let m : unsigned_abs k ≤ unsigned_abs (k *ℤ c) = rw (unsigned_abs-mul k c) (grind arith) in
    let y : ℤ = k *ℤ c in
    omega (arith, ints)

pub not_within : (k : ℤ) (q : ℕ × ℤ) (qs ps : List (ℕ × ℤ)) (n : ℕ) → n + n < unsigned_abs k → IsOrdered 0 (q ∷ qs) → IsOrdered 0 ps → AreUpTo n ps → AreUpTo n (with_parts k (q ∷ qs) ps) → ⊥
not_within k q qs ps n l o g h u =
    let a = value-with_parts (delta q.0) k (q ∷ qs) ps in
    let b = value-head q.0 q qs refl o.2 in
    let c = coefficient-le n 0 q.0 ps g h in
    let d = coefficient-le n 0 q.0 (with_parts k (q ∷ qs) ps) (ordered_with_parts k (q ∷ qs) ps g) u in
    let e = scaled k q.1 (value_parts (delta q.0) ps) n l o.1 c in
    let f = rw (a, b) at d in
    omega (arith, e, f)

pub konst_kept : (a k b product sum : ℤ) → product ≡ k *ℤ b → sum ≡ a +ℤ product → unsigned_abs sum ≤ 2 ^ 96 → (nat_le (unsigned_abs (a +ℤ k *ℤ b)) (2 ^ 96) ≡ true) × (sum ≡ a +ℤ k *ℤ b)
konst_kept a k b product sum e f l =
    let g : sum ≡ a +ℤ k *ℤ b = cc in
    (rw (← g) (grind (arith, nat_tests)), g)

pub konst_past : (a k b product sum : ℤ) → product ≡ k *ℤ b → sum ≡ a +ℤ product → 2 ^ 96 < unsigned_abs sum → nat_le (unsigned_abs (a +ℤ k *ℤ b)) (2 ^ 96) ≡ false
konst_past a k b product sum e f l =
    let g : sum ≡ a +ℤ k *ℤ b = cc in
    rw (← g) (grind (arith, nat_tests))

-- where the factor is past its limit, so is a coefficient
pub parts_past : (k : ℤ) (qs ps : List (ℕ × ℤ)) → 0 < length qs → 2 ^ 33 < unsigned_abs k → IsOrdered 0 qs → IsOrdered 0 ps → parts_within ps ≡ true → parts_within (with_parts k qs ps) ≡ false
parts_past k [] ps n l o g w = absurd (omega arith)
parts_past k (q ∷ qs) ps n l o g w =
    not_true _ (λ e. not_within k q qs ps (2 ^ 32) (omega arith) o g (up_to-all_within (2 ^ 32) ps (and_right _ _ w)) (up_to-all_within (2 ^ 32) (with_parts k (q ∷ qs) ps) (and_right _ _ e)))

pub parts-up_to : (ps : List (ℕ × ℤ)) → parts_within ps ≡ true → AreUpTo (2 ^ 32) ps
parts-up_to ps w = up_to-all_within (2 ^ 32) ps (and_right _ _ w)

pub times_fits : (k c : ℤ) → unsigned_abs k ≤ 2 ^ 33 → unsigned_abs c ≤ 2 ^ 32 → unsigned_abs (k *ℤ c) ≤ 2 ^ 65
times_fits k c g h = rw (unsigned_abs-mul k c) (mul-le (unsigned_abs k) (unsigned_abs c) (2 ^ 33) (2 ^ 32) g h)

pub up_to-at : (n : ℕ) (ps : List (ℕ × ℤ)) (i : ℕ) (d : ℕ × ℤ) → i < length ps → AreUpTo n ps → unsigned_abs (get_or ps i d).1 ≤ n
up_to-at n [] i d l h = absurd (omega arith)
up_to-at n (p ∷ ps) zero d l h = h.0
up_to-at n (p ∷ ps) (suc i) d l h = up_to-at n ps i d (omega arith) h.1

-- what the two sums give is a form
pub sum_is_term : (k a b konst : ℤ) (ps qs rs : List (ℕ × ℤ)) → IsOrdered 0 ps → (nat_le (unsigned_abs (a +ℤ k *ℤ b)) (2 ^ 96) ≡ true) × (konst ≡ a +ℤ k *ℤ b) → (parts_within (with_parts k qs ps) ≡ true) × (rs ≡ with_parts k qs ps) → IsTerm (record { konst = konst; parts = rs })
sum_is_term k a b konst ps qs rs o e f =
    let t : within (record { konst = konst; parts = rs }) ≡ true = rw (e.1, f.1) (and_both _ _ e.0 f.0) in
    record { ordered = rw f.1 (ordered_with_parts k qs ps o); limits = t }

-- ---- a form without a part
ordered_without_by : (s b : ℕ) (p : ℕ × ℤ) (ps qs : List (ℕ × ℤ)) (t : Bool) → (b ≤ p.0) × (0 < unsigned_abs p.1) → IsOrdered (suc p.0) qs → IsOrdered b (cond t qs (p ∷ qs))
ordered_without_by s b p ps qs true h o = ordered_weaker b (suc p.0) qs (omega (arith, h.0)) o
ordered_without_by s b p ps qs false h o = (h.0, h.1, o)

pub ordered_without : (s b : ℕ) (ps : List (ℕ × ℤ)) → IsOrdered b ps → IsOrdered b (without s ps)
ordered_without s b [] o = tt
ordered_without s b (p ∷ ps) o = ordered_without_by s b p ps (without s ps) (eqb p.0 s) (o.0, o.1) (ordered_without s (suc p.0) ps o.2)

length_without_by : (p : ℕ × ℤ) (ps qs : List (ℕ × ℤ)) (t : Bool) → length qs ≤ length ps → length (cond t qs (p ∷ qs)) ≤ suc (length ps)
length_without_by p ps qs true h = omega arith
length_without_by p ps qs false h = omega arith

pub length_without : (s : ℕ) (ps : List (ℕ × ℤ)) → length (without s ps) ≤ length ps
length_without s [] = omega arith
length_without s (p ∷ ps) = length_without_by p ps (without s ps) (eqb p.0 s) (length_without s ps)

small_without_by : (n : ℕ) (p : ℕ × ℤ) (qs : List (ℕ × ℤ)) (t : Bool) → nat_le (unsigned_abs p.1) n ≡ true → all_within n qs ≡ true → all_within n (cond t qs (p ∷ qs)) ≡ true
small_without_by n p qs true h g = g
small_without_by n p qs false h g = and_both (nat_le (unsigned_abs p.1) n) (all_within n qs) h g

pub small_without : (n s : ℕ) (ps : List (ℕ × ℤ)) → all_within n ps ≡ true → all_within n (without s ps) ≡ true
small_without n s [] h = refl
small_without n s (p ∷ ps) h = small_without_by n p (without s ps) (eqb p.0 s) (and_left (nat_le (unsigned_abs p.1) n) (all_within n ps) h) (small_without n s ps (and_right (nat_le (unsigned_abs p.1) n) (all_within n ps) h))

pub without_is_term : (s : ℕ) (t : Linear) → IsTerm t → IsTerm (record { konst = t.konst; parts = without s t.parts })
without_is_term s t h =
    let k = and_left (nat_le (unsigned_abs t.konst) (2 ^ 96)) (parts_within t.parts) h.limits in
    let w = and_right (nat_le (unsigned_abs t.konst) (2 ^ 96)) (parts_within t.parts) h.limits in
    let l = true_le _ _ (and_left (nat_le (length t.parts) 4) (all_within (2 ^ 32) t.parts) w) in
    let a = small_without (2 ^ 32) s t.parts (and_right (nat_le (length t.parts) 4) (all_within (2 ^ 32) t.parts) w) in
    record {
      ordered = ordered_without s 0 t.parts h.ordered;
      limits = and_both _ _ k (and_both _ _ (le_true _ _ (omega (arith, length_without s t.parts))) a);
    }

pub term-up_to : (t : Linear) → IsTerm t → AreUpTo (2 ^ 32) t.parts
term-up_to t h = parts-up_to t.parts (and_right (nat_le (unsigned_abs t.konst) (2 ^ 96)) (parts_within t.parts) h.limits)

pub term-few : (t : Linear) → IsTerm t → length t.parts ≤ 4
term-few t h =
    true_le (length t.parts) 4 (and_left (nat_le (length t.parts) 4) (all_within (2 ^ 32) t.parts) (and_right (nat_le (unsigned_abs t.konst) (2 ^ 96)) (parts_within t.parts) h.limits))
