-- The bounds of symbols hold where the form is at least 0.
use Rattle.std.specs.Prelude.{◌≡◌, ℕ, zero, suc, ℤ, pos, negsuc, neg_ℤ, ◌+ℤ◌, ◌-ℤ◌, ◌*ℤ◌, ◌≤ℤ◌, ◌<ℤ◌, ◌<◌, unsigned_abs, int_lt, int_le, Bool, true, false, ◌&&◌, List, [], ◌∷◌, slice_set, Option, Some, None}
use Rattle.std.proofs.Common.{arith, refl, ap, cond}
use Rattle.std.proofs.lemmas.Int.{ints}
use Rattle.cx_term.specs.Forms.{Linear, value, symbol_of}
use Rattle.cx_term.specs.Sums.{plus_times}
use Rattle.cx_term.proofs.Exact.{value-plus_times}
use Rattle.cx_term.proofs.Ring.{neg-mul, mul-add_left, mul-sub_left}
use Rattle.cx_entail.specs.Ranges.{Span, Has, low, high}
use Rattle.cx_entail.specs.Bounds.{range_at, InRanges, most}
use Rattle.cx_entail.proofs.Euclid.{not_negative}
use Rattle.cx_entail.proofs.BoundLaws.{most-ge}
use Rattle.cx_query.proofs.Comes.{Comes, fit-comes, value-symbol}
use Rattle.cx_learn.specs.Learning.{raised, lowered, others, reach, bounded_by, bounded, all_bounded}
use Rattle.cx_learn.proofs.Floors.{floor}

raised_by : (z x : ℤ) (r : Span) (b : Bool) → z ≤ℤ x → Has r x → Has (cond b (record r { lo = z }) r) x
raised_by z x r true l h = record { step = h.step; low = l; high = h.high; rest = h.rest }
raised_by z x r false l h = h

raised-has : (z x : ℤ) (r : Span) → z ≤ℤ x → Has r x → Has (raised z r) x
raised-has z x r l h = raised_by z x r (int_lt r.lo z && int_le z (high r)) l h

lowered_by : (z x : ℤ) (r : Span) (b : Bool) → x ≤ℤ z → Has r x → Has (cond b (record r { hi = z }) r) x
lowered_by z x r true l h = record { step = h.step; low = h.low; high = l; rest = h.rest }
lowered_by z x r false l h = h

lowered-has : (z x : ℤ) (r : Span) → x ≤ℤ z → Has r x → Has (lowered z r) x
lowered-has z x r l h = lowered_by z x r (int_lt z r.hi && int_le (low r) z) l h

others-comes : (v : ℕ → ℤ) (t : Linear) (p : ℕ × ℤ) → Comes v (others t p) (value v t -ℤ p.1 *ℤ v p.0)
others-comes v t p =
    fit-comes v (plus_times (neg_ℤ p.1) (symbol_of p.0) t) (value v t -ℤ p.1 *ℤ v p.0)
    (omega (arith, ints, value-plus_times (neg_ℤ p.1) (symbol_of p.0) t v, ap (λ (x : ℤ). neg_ℤ p.1 *ℤ x) (value-symbol v p.0), neg-mul p.1 (v p.0)))

size_above : (k : ℤ) → pos 0 <ℤ k → pos (unsigned_abs k) ≡ k
size_above (pos n) h = refl
size_above (negsuc n) h = absurd (omega (arith, ints, h))

size_below : (k : ℤ) → k <ℤ pos 0 → neg_ℤ (pos (unsigned_abs k)) ≡ k
size_below (pos n) h = absurd (omega (arith, ints, h))
size_below (negsuc n) h = omega (arith, ints)

-- a symbol with a coefficient above 0 is at least what the others let it be
reach_up : (m : ℤ) (n : ℕ) (k x z : ℤ) → 0 < n → pos n ≡ k → pos 0 ≤ℤ (z +ℤ k *ℤ x) → z ≤ℤ m → (q : ℤ) → (pos n *ℤ q) ≤ℤ m → m <ℤ (pos n *ℤ q +ℤ pos n) → neg_ℤ q ≤ℤ x
reach_up m n k x z p e h l q a b =
    omega (arith, ints, not_negative n (x +ℤ q) (omega (arith, ints, mul-add_left (pos n) x q, ap (λ (y : ℤ). y *ℤ x) e, h, l, b)))

-- a symbol with a coefficient below 0 is at most that
reach_down : (m : ℤ) (n : ℕ) (k x z : ℤ) → 0 < n → neg_ℤ (pos n) ≡ k → pos 0 ≤ℤ (z +ℤ k *ℤ x) → z ≤ℤ m → (q : ℤ) → (pos n *ℤ q) ≤ℤ m → m <ℤ (pos n *ℤ q +ℤ pos n) → x ≤ℤ q
reach_down m n k x z p e h l q a b =
    omega (arith, ints, not_negative n (q -ℤ x) (omega (arith, ints, mul-sub_left (pos n) q x, neg-mul (pos n) x, ap (λ (y : ℤ). y *ℤ x) e, h, l, b)))

low_by : (rs : List Span) (v : ℕ → ℤ) (t rest : Linear) (p : ℕ × ℤ) (b : Bool) → InRanges rs v → pos 0 ≤ℤ value v t → value v rest ≡ value v t -ℤ p.1 *ℤ v p.0 → int_lt p.1 (pos 0) ≡ b → Has (cond b (lowered (reach rs rest p) (range_at rs p.0)) (range_at rs p.0)) (v p.0)
low_by rs v t rest p true r h e f =
    let k : p.1 <ℤ pos 0 = omega (arith, ints, f) in
    let n : 0 < unsigned_abs p.1 = omega (arith, ints, k) in
    let g = floor (most rs rest) (unsigned_abs p.1) n in
    lowered-has (reach rs rest p) (v p.0) (range_at rs p.0)
    (reach_down (most rs rest) (unsigned_abs p.1) p.1 (v p.0) (value v rest) n (size_below p.1 k) (omega (arith, ints, h, e)) (most-ge rs v rest r) (reach rs rest p) g.low g.high)
    (r p.0)
low_by rs v t rest p false r h e f = r p.0

high_by : (rs : List Span) (v : ℕ → ℤ) (t rest : Linear) (p : ℕ × ℤ) (b : Bool) → InRanges rs v → pos 0 ≤ℤ value v t → value v rest ≡ value v t -ℤ p.1 *ℤ v p.0 → int_lt (pos 0) p.1 ≡ b → Has (cond b (raised (neg_ℤ (reach rs rest p)) (range_at rs p.0)) (cond (int_lt p.1 (pos 0)) (lowered (reach rs rest p) (range_at rs p.0)) (range_at rs p.0))) (v p.0)
high_by rs v t rest p true r h e f =
    let k : pos 0 <ℤ p.1 = omega (arith, ints, f) in
    let n : 0 < unsigned_abs p.1 = omega (arith, ints, k) in
    let g = floor (most rs rest) (unsigned_abs p.1) n in
    raised-has (neg_ℤ (reach rs rest p)) (v p.0) (range_at rs p.0)
    (reach_up (most rs rest) (unsigned_abs p.1) p.1 (v p.0) (value v rest) n (size_above p.1 k) (omega (arith, ints, h, e)) (most-ge rs v rest r) (reach rs rest p) g.low g.high)
    (r p.0)
high_by rs v t rest p false r h e f = low_by rs v t rest p (int_lt p.1 (pos 0)) r h e refl

bounded_has : (rs : List Span) (v : ℕ → ℤ) (t : Linear) (p : ℕ × ℤ) (o : Option Linear) → InRanges rs v → pos 0 ≤ℤ value v t → Comes v o (value v t -ℤ p.1 *ℤ v p.0) → Has (bounded_by rs o p) (v p.0)
bounded_has rs v t p None r h c = r p.0
bounded_has rs v t p (Some rest) r h c = high_by rs v t rest p (int_lt (pos 0) p.1) r h (c rest refl) refl

-- a list of ranges with one changed
pub set-has : (rs : List Span) (s x : ℕ) (r : Span) (z : ℤ) → Has (range_at rs x) z → (x ≡ s → Has r z) → Has (range_at (slice_set rs s r) x) z
set-has [] s x r z h k = h
set-has (y ∷ rs) zero zero r z h k = k refl
set-has (y ∷ rs) zero (suc x) r z h k = h
set-has (y ∷ rs) (suc s) zero r z h k = h
set-has (y ∷ rs) (suc s) (suc x) r z h k = set-has rs s x r z h (λ e. k (ap suc e))

pub set-in_ranges : (rs : List Span) (v : ℕ → ℤ) (s : ℕ) (r : Span) → InRanges rs v → Has r (v s) → InRanges (slice_set rs s r) v
set-in_ranges rs v s r h k = λ x. set-has rs s x r (v x) (h x) (λ e. rw e k)

pub all_bounded-in_ranges : (t : Linear) (ps : List (ℕ × ℤ)) (rs : List Span) (v : ℕ → ℤ) → InRanges rs v → pos 0 ≤ℤ value v t → InRanges (all_bounded t ps rs) v
all_bounded-in_ranges t [] rs v r h = r
all_bounded-in_ranges t (p ∷ ps) rs v r h =
    all_bounded-in_ranges t ps (slice_set rs p.0 (bounded rs t p)) v (set-in_ranges rs v p.0 (bounded rs t p) r (bounded_has rs v t p (others t p) r h (others-comes v t p))) h
