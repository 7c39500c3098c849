-- What is shown is true.
use Rattle.std.specs.Prelude.{◌≡◌, ℕ, ℤ, pos, negsuc, neg_ℤ, ◌+ℤ◌, ◌-ℤ◌, ◌*ℤ◌, ◌≤ℤ◌, ◌<◌, nat_lt, Bool, true, false, List, [], Some, None}
use Rattle.std.specs.List.{AllByRecursion}
use Rattle.std.specs.Int.{int_rem_euclid}
use Rattle.std.proofs.Common.{arith, refl, cond}
use Rattle.std.proofs.lemmas.Int.{ints}
use Rattle.std.proofs.lemmas.Bool.Decides.{nat_tests}
use Rattle.cx_term.specs.Forms.{Linear, value, within}
use Rattle.cx_term.specs.Conditions.{Holds}
use Rattle.cx_term.specs.Sums.{combined, plus_number}
use Rattle.cx_term.specs.declared.term.Ineq.{Ineq}
use Rattle.cx_term.specs.declared.term.Ineq.TheVariants.{Ge, Ne}
use Rattle.cx_term.proofs.Ring.{neg-mul, mul-add_left}
use Rattle.cx_term.proofs.Tests.{or_cases, any_cases, any_of}
use Rattle.cx_term.proofs.Combined.{value-combined, value-plus_number}
use Rattle.cx_entail.specs.Ranges.{Span, Congruent}
use Rattle.cx_entail.specs.Bounds.{InRanges, modulus, at_lows}
use Rattle.cx_entail.specs.Shows.{passes, slack, rounded, all_factors, less_multiple, passes_less, passes_known, step, shown_none, shown_once, shown_twice, shown}
use Rattle.cx_entail.proofs.Euclid.{split, not_negative}
use Rattle.cx_entail.proofs.BoundLaws.{product-ge, least-le, leaves_remainder}

pub fit_by : (test : Linear → Bool) (P : Type 0) (t : Linear) (b : Bool) → (test t ≡ true → P) → passes test (cond b (Some t) None) ≡ true → P
fit_by test P t true f e = f e
fit_by test P t false f e = absurd (let z : false ≡ true = e in cc)

-- ---- rounding by the remainder
slack_by : (m : ℕ) (c x : ℤ) (t : Bool) → nat_lt 1 m ≡ t → Congruent m x c → pos 0 ≤ℤ (x +ℤ cond t ((pos m -ℤ pos 1) -ℤ int_rem_euclid c (pos m)) (pos 0)) → pos 0 ≤ℤ x
slack_by m c x false e g h = omega (arith, ints, h)
slack_by m c x true e g h =
    let p : 1 < m = grind (arith, nat_tests) in
    let s = split c m (omega arith) in
    let a : x ≡ pos s.n +ℤ pos m *ℤ (s.q +ℤ g.0) = omega (arith, ints, g.1, s.sum, mul-add_left (pos m) s.q g.0) in
    let n : pos 0 ≤ℤ (s.q +ℤ g.0) = not_negative m (s.q +ℤ g.0) (omega (arith, ints, h, a, s.is)) in
    omega (arith, ints, a, product-ge (pos m) (s.q +ℤ g.0) (omega (arith, ints)) n)

-- what is at least 0 with its slack added is at least 0
slack_sound : (m : ℕ) (c x : ℤ) → Congruent m x c → pos 0 ≤ℤ (x +ℤ slack m c) → pos 0 ≤ℤ x
slack_sound m c x g h = slack_by m c x (nat_lt 1 m) refl g h

rounded_sound : (test : Linear → Bool) (rs : List Span) (v : ℕ → ℤ) (f : Linear) → InRanges rs v → ((t : Linear) → test t ≡ true → pos 0 ≤ℤ value v t) → passes test (rounded rs f) ≡ true → pos 0 ≤ℤ value v f
rounded_sound test rs v f r s e =
    let z = slack (modulus rs f) (at_lows rs f) in
    fit_by test (pos 0 ≤ℤ value v f) (plus_number z f) (within (plus_number z f))
    (λ t. slack_sound (modulus rs f) (at_lows rs f) (value v f) (leaves_remainder rs f v r) (omega (arith, ints, s (plus_number z f) t, value-plus_number v z f)))
    e

-- ---- a multiple of something known taken away
-- a number whose k-fold is above -k is at least 0
whole_by : (k : ℕ) (x : ℤ) → pos 0 ≤ℤ ((pos k -ℤ pos 1) +ℤ pos k *ℤ x) → pos 0 ≤ℤ x
whole_by k (pos n) h = omega (arith, ints)
whole_by k (negsuc n) h = absurd (omega (arith, ints, h))

multiple_sound : (test : Linear → Bool) (v : ℕ → ℤ) (f g : Linear) (k : ℕ × ℕ) → ((t : Linear) → test t ≡ true → pos 0 ≤ℤ value v t) → pos 0 ≤ℤ value v g → passes test (less_multiple f g k) ≡ true → pos 0 ≤ℤ value v f
multiple_sound test v f g k s h e =
    let u = combined (pos k.0) f (neg_ℤ (pos k.1)) g (pos k.0 -ℤ pos 1) in
    fit_by test (pos 0 ≤ℤ value v f) u (within u)
    (λ t. whole_by k.0 (value v f) (omega (arith, ints, s u t, value-combined v (pos k.0) f (neg_ℤ (pos k.1)) g (pos k.0 -ℤ pos 1), neg-mul (pos k.1) (value v g), product-ge (pos k.1) (value v g) (omega (arith, ints)) h)))
    e

less_sound : (test : Linear → Bool) (v : ℕ → ℤ) (f : Linear) (c : Ineq) → ((t : Linear) → test t ≡ true → pos 0 ≤ℤ value v t) → Holds v c → passes_less test f c ≡ true → pos 0 ≤ℤ value v f
less_sound test v f (Ge g) s h e = any_of (pos 0 ≤ℤ value v f) (λ k. passes test (less_multiple f g k)) (all_factors g.parts f.parts []) (λ k a. multiple_sound test v f g k s h a) e
less_sound test v f (Ne g) s h e = absurd (let z : false ≡ true = e in cc)

known_sound : (test : Linear → Bool) (known : List Ineq) (v : ℕ → ℤ) → AllByRecursion (Holds v) known → ((t : Linear) → test t ≡ true → pos 0 ≤ℤ value v t) → (f : Linear) → passes_known test known f ≡ true → pos 0 ≤ℤ value v f
known_sound test known v k s f e = any_cases (Holds v) (pos 0 ≤ℤ value v f) (passes_less test f) known (λ c h a. less_sound test v f c s h a) k e

none_sound : (rs : List Span) (v : ℕ → ℤ) → InRanges rs v → (f : Linear) → shown_none rs f ≡ true → pos 0 ≤ℤ value v f
none_sound rs v h f e = omega (arith, ints, e, least-le rs v f h)

pub step_sound : (test : Linear → Bool) (known : List Ineq) (rs : List Span) (v : ℕ → ℤ) → InRanges rs v → AllByRecursion (Holds v) known → ((t : Linear) → test t ≡ true → pos 0 ≤ℤ value v t) → (f : Linear) → step test known rs f ≡ true → pos 0 ≤ℤ value v f
step_sound test known rs v r k s f e =
    or_cases (shown_none rs f) (passes (passes_known test known) (rounded rs f)) (pos 0 ≤ℤ value v f) (none_sound rs v r f) (rounded_sound (passes_known test known) rs v f r (known_sound test known v k s)) e

pub shown_sound : (known : List Ineq) (rs : List Span) (v : ℕ → ℤ) → InRanges rs v → AllByRecursion (Holds v) known → (f : Linear) → shown known rs f ≡ true → pos 0 ≤ℤ value v f
shown_sound known rs v r k f e = step_sound (shown_twice known rs) known rs v r k (step_sound (shown_once known rs) known rs v r k (step_sound (shown_none rs) known rs v r k (none_sound rs v r))) f e
