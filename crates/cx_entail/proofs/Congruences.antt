-- Laws of numbers that are congruent.
use Rattle.std.specs.Prelude.{◌≡◌, ℕ, zero, suc, ◌<◌, ℤ, pos, negsuc, ◌+ℤ◌, ◌-ℤ◌, ◌*ℤ◌, ◌/◌, ◌%◌, ◌*◌, unsigned_abs, neg_ℤ}
use Rattle.std.specs.Int.{◌∣◌}
use Rattle.std.proofs.Common.{arith, refl, sym, ap, ◌∙◌}
use Rattle.std.proofs.lemmas.Int.{ints}
use Rattle.std.proofs.lemmas.Nat.{mod_below}
use Rattle.std.proofs.Math.IntN.{*ℤ_comm}
use Rattle.std.proofs.Math.Nat.{mul-div_cancel'}
use Rattle.cx_term.proofs.Ring.{mul_assoc, mul-add_left, mul-neg, mul-sub_left, neg-mul}
use Rattle.cx_entail.specs.Ranges.{Congruent}

pub congruent_refl : (m : ℕ) (a : ℤ) → Congruent m a a
congruent_refl m a = (pos 0, omega (arith, ints))

pub congruent_sym : (m : ℕ) (a b : ℤ) → Congruent m a b → Congruent m b a
congruent_sym m a b h = (neg_ℤ h.0, omega (arith, ints, h.1, mul-neg (pos m) h.0))

pub congruent_trans : (m : ℕ) (a b c : ℤ) → Congruent m a b → Congruent m b c → Congruent m a c
congruent_trans m a b c g h = (g.0 +ℤ h.0, omega (arith, ints, g.1, h.1, mul-add_left (pos m) g.0 h.0))

-- modulo a divisor
pub congruent_divisor : (g m : ℕ) (a b : ℤ) → g ∣ m → Congruent m a b → Congruent g a b
congruent_divisor g m a b d h =
    let e : pos m ≡ pos g *ℤ pos (m / g) = ap pos (sym (mul-div_cancel' g d)) in
    (pos (m / g) *ℤ h.0, omega (arith, ints, h.1, ap (λ x. x *ℤ h.0) e, mul_assoc (pos g) (pos (m / g)) h.0))

distance_by : (g : ℕ) (a b z : ℤ) → z ≡ a -ℤ b → g ∣ unsigned_abs z → Congruent g a b
distance_by g a b (pos n) e d = (pos (n / g), omega (arith, ints, mul-div_cancel' g d))
distance_by g a b (negsuc n) e d = (neg_ℤ (pos (suc n / g)), omega (arith, ints, mul-div_cancel' g d, mul-neg (pos g) (pos (suc n / g))))

-- modulo a divisor of the distance
pub congruent_distance : (g : ℕ) (a b : ℤ) → g ∣ unsigned_abs (a -ℤ b) → Congruent g a b
congruent_distance g a b d = distance_by g a b (a -ℤ b) refl d

pub zero_distance : (a b : ℤ) → unsigned_abs (a -ℤ b) ≡ 0 → a ≡ b
zero_distance a b e = omega (arith, ints)

-- a remainder is congruent
pub congruent_mod : (m n : ℕ) → Congruent m (pos (n % m)) (pos n)
congruent_mod m n = (neg_ℤ (pos (n / m)), omega (arith, ints, mul-neg (pos m) (pos (n / m))))

pub congruent_add : (m : ℕ) (a b c d : ℤ) → Congruent m a b → Congruent m c d → Congruent m (a +ℤ c) (b +ℤ d)
congruent_add m a b c d g h = (g.0 +ℤ h.0, omega (arith, ints, g.1, h.1, mul-add_left (pos m) g.0 h.0))

pub congruent_neg : (m : ℕ) (a b : ℤ) → Congruent m a b → Congruent m (neg_ℤ a) (neg_ℤ b)
congruent_neg m a b g = (neg_ℤ g.0, omega (arith, ints, g.1, mul-neg (pos m) g.0))

pub congruent_times : (m : ℕ) (k a b : ℤ) → Congruent m a b → Congruent m (k *ℤ a) (k *ℤ b)
congruent_times m k a b g =
    (k *ℤ g.0, ap (λ x. k *ℤ x) g.1 ∙ omega (arith, ints, mul-add_left k b (pos m *ℤ g.0), mul_assoc k (pos m) g.0, mul_assoc (pos m) k g.0, ap (λ x. x *ℤ g.0) (*ℤ_comm k (pos m))))

-- a multiple of m, taken c times, is congruent by c's size times m
scaled_by : (m : ℕ) (c z w a b j : ℤ) → z ≡ c → w ≡ a -ℤ b → w ≡ pos m *ℤ j → (i : ℤ) × (z *ℤ w ≡ pos (unsigned_abs z * m) *ℤ i)
scaled_by m c (pos n) w a b j e f g = (j, ap (λ x. pos n *ℤ x) g ∙ sym (mul_assoc (pos n) (pos m) j))
scaled_by m c (negsuc n) w a b j e f g =
    (neg_ℤ j, ap (λ x. negsuc n *ℤ x) g ∙ sym (mul_assoc (negsuc n) (pos m) j) ∙ omega (arith, ints, neg-mul (pos (suc n * m)) j, mul-neg (pos (suc n * m)) j, ap (λ x. x *ℤ j) (negative n m)))
  where
    negative : (n m : ℕ) → negsuc n *ℤ pos m ≡ neg_ℤ (pos (suc n * m))
    negative n m = omega (arith, ints)

pub congruent_scaled : (m : ℕ) (c a b : ℤ) → Congruent m a b → Congruent (unsigned_abs c * m) (c *ℤ a) (c *ℤ b)
congruent_scaled m c a b h =
    let s = scaled_by m c c (a -ℤ b) a b h.0 refl refl (omega (arith, ints, h.1)) in
    (s.0, omega (arith, ints, s.1, mul-sub_left c a b))

-- a number below g that is a multiple of g is 0
pub rest_zero : (g n : ℕ) (x : ℤ) → n < g → pos g *ℤ x ≡ pos n → n ≡ 0
rest_zero g n (pos zero) l e = omega (arith, ints, e)
rest_zero g n (pos (suc i)) l e = absurd (omega (arith, ints, e))
rest_zero g n (negsuc i) l e = absurd (omega (arith, ints, e))

size_multiple : (m : ℕ) (c j : ℤ) → c ≡ pos m *ℤ j → (i : ℤ) × (pos m *ℤ i ≡ pos (unsigned_abs c))
size_multiple m (pos n) j e = (j, sym e)
size_multiple m (negsuc n) j e = (neg_ℤ j, omega (arith, ints, e, mul-neg (pos m) j))

-- m divides the size of what is congruent to 0
pub zero_rest : (m : ℕ) (c : ℤ) → 0 < m → Congruent m c (pos 0) → unsigned_abs c % m ≡ 0
zero_rest m c p h =
    let s = size_multiple m c h.0 (omega (arith, ints, h.1)) in
    let k = unsigned_abs c in
    rest_zero m (k % m) (s.0 -ℤ pos (k / m)) (mod_below k m p) (omega (arith, ints, s.1, mul-sub_left (pos m) s.0 (pos (k / m))))
