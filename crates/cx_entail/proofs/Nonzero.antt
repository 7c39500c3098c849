-- What is shown not to be 0 is not 0.
use Rattle.std.specs.Prelude.{◌≡◌, ◌≢◌, ℕ, ℤ, pos, negsuc, ◌-ℤ◌, ◌≤ℤ◌, ◌<◌, ◌%◌, unsigned_abs, Bool, true, false, not, nat_lt, ◌==◌, ◌&&◌, List, [], ◌∷◌}
use Rattle.std.specs.List.{AllByRecursion}
use Rattle.std.proofs.Common.{arith, refl, sym, eqb}
use Rattle.std.proofs.lemmas.Int.{ints}
use Rattle.std.proofs.lemmas.Bool.Decides.{nat_tests}
use Rattle.cx_term.specs.Forms.{Linear, value, within, constant_of}
use Rattle.cx_term.specs.Sums.{plus_times}
use Rattle.cx_term.specs.declared.term.Ineq.{Ineq}
use Rattle.cx_term.specs.declared.term.Ineq.TheVariants.{Ge, Ne}
use Rattle.cx_term.proofs.Tests.{and_left, and_right, and_both, or_cases, any_cases}
use Rattle.cx_term.proofs.Exact.{value-plus_times}
use Rattle.cx_entail.specs.Ranges.{Span, Congruent, same_z}
use Rattle.cx_entail.specs.Bounds.{InRanges, modulus, at_lows}
use Rattle.cx_term.specs.Conditions.{Holds}
use Rattle.cx_entail.specs.Shows.{passes, shown, same_parts, same_form, is_listed_by, listed, leaves_rest, less_one, minus_less_one, minus, shown_nonzero}
use Rattle.cx_entail.proofs.Congruences.{zero_distance, congruent_sym, zero_rest}
use Rattle.cx_entail.proofs.BoundLaws.{leaves_remainder}
use Rattle.cx_entail.proofs.Sound.{fit_by, shown_sound}

-- ---- the same form
same_z-true : (a b : ℤ) → same_z a b ≡ true → a ≡ b
same_z-true a b e = zero_distance a b (grind (arith, nat_tests))

same_z-refl : (a : ℤ) → same_z a a ≡ true
same_z-refl a = let h : unsigned_abs (a -ℤ a) ≡ 0 = omega (arith, ints) in rw h refl

eqb-refl : (n : ℕ) → eqb n n ≡ true
eqb-refl n = grind (arith, nat_tests)

eqb_true : (a b : ℕ) → eqb a b ≡ true → a ≡ b
eqb_true a b e = grind (arith, nat_tests)

same_parts-true : (ps qs : List (ℕ × ℤ)) → same_parts ps qs ≡ true → ps ≡ qs
same_parts-true [] [] e = refl
same_parts-true [] (q ∷ qs) e = absurd (let z : false ≡ true = e in cc)
same_parts-true (p ∷ ps) [] e = absurd (let z : false ≡ true = e in cc)
same_parts-true (p ∷ ps) (q ∷ qs) e =
    let s : p.0 ≡ q.0 = eqb_true p.0 q.0 (and_left (eqb p.0 q.0) (same_z p.1 q.1 && same_parts ps qs) e) in
    let r = and_right (eqb p.0 q.0) (same_z p.1 q.1 && same_parts ps qs) e in
    let c : p.1 ≡ q.1 = same_z-true p.1 q.1 (and_left (same_z p.1 q.1) (same_parts ps qs) r) in
    let t : ps ≡ qs = same_parts-true ps qs (and_right (same_z p.1 q.1) (same_parts ps qs) r) in
    let a : ◌≡◌ {A = ℕ × ℤ} (p.0, p.1) (q.0, q.1) = cc in
    let b : p ≡ q = a in
    cc

same_parts-refl : (ps : List (ℕ × ℤ)) → same_parts ps ps ≡ true
same_parts-refl [] = refl
same_parts-refl (p ∷ ps) = and_both (eqb p.0 p.0) (same_z p.1 p.1 && same_parts ps ps) (eqb-refl p.0) (and_both (same_z p.1 p.1) (same_parts ps ps) (same_z-refl p.1) (same_parts-refl ps))

pub same_form-true : (t u : Linear) → same_form t u ≡ true → t ≡ u
same_form-true t u e =
    let k : t.konst ≡ u.konst = same_z-true t.konst u.konst (and_left (same_z t.konst u.konst) (same_parts t.parts u.parts) e) in
    let p : t.parts ≡ u.parts = same_parts-true t.parts u.parts (and_right (same_z t.konst u.konst) (same_parts t.parts u.parts) e) in
    let r : ◌≡◌ {A = Linear} (record { konst = t.konst; parts = t.parts }) (record { konst = u.konst; parts = u.parts }) = rw (k, p) refl in
    r

same_form-refl : (t : Linear) → same_form t t ≡ true
same_form-refl t = and_both (same_z t.konst t.konst) (same_parts t.parts t.parts) (same_z-refl t.konst) (same_parts-refl t.parts)

same_test : (x y : Bool) (P : Type 0) → (x ≡ true → P) → (P → x ≡ true) → (y ≡ true → P) → (P → y ≡ true) → x ≡ y
same_test true true P a b c d = refl
same_test true false P a b c d = sym (d (a refl))
same_test false true P a b c d = b (c refl)
same_test false false P a b c d = refl

pub same_form-is : (x : Bool) (t u : Linear) → (x ≡ true → t ≡ u) → (t ≡ u → x ≡ true) → x ≡ same_form t u
same_form-is x t u a b = same_test x (same_form t u) (t ≡ u) a b (same_form-true t u) (λ e. rw e (same_form-refl u))

-- ---- each of the ways
above : (known : List Ineq) (rs : List Span) (v : ℕ → ℤ) (f : Linear) → InRanges rs v → AllByRecursion (Holds v) known → passes (shown known rs) (less_one f) ≡ true → value v f ≢ pos 0
above known rs v f h k e z =
    let u = plus_times (negsuc 0) (constant_of (pos 1)) f in
    let s = fit_by (shown known rs) (pos 0 ≤ℤ value v u) u (within u) (λ t. shown_sound known rs v h k u t) e in
    omega (arith, ints, s, z, value-plus_times (negsuc 0) (constant_of (pos 1)) f v)

below : (known : List Ineq) (rs : List Span) (v : ℕ → ℤ) (f : Linear) → InRanges rs v → AllByRecursion (Holds v) known → passes (shown known rs) (minus_less_one f) ≡ true → value v f ≢ pos 0
below known rs v f h k e z =
    let u = plus_times (negsuc 0) f (constant_of (negsuc 0)) in
    let s = fit_by (shown known rs) (pos 0 ≤ℤ value v u) u (within u) (λ t. shown_sound known rs v h k u t) e in
    omega (arith, ints, s, z, value-plus_times (negsuc 0) f (constant_of (negsuc 0)) v)

rest_by : (m : ℕ) (c x : ℤ) → Congruent m x c → leaves_rest m c ≡ true → x ≢ pos 0
rest_by m c x g e z =
    let p : 0 < m = positive m (and_left (nat_lt 0 m) (not ((unsigned_abs c % m) == 0)) e) in
    let n = zero_rest m c p (congruent_sym m (pos 0) c (rw z at g)) in
    refused (unsigned_abs c % m) (and_right (nat_lt 0 m) (not ((unsigned_abs c % m) == 0)) e) n
  where
    positive : (m : ℕ) → nat_lt 0 m ≡ true → 0 < m
    positive m e = grind (arith, nat_tests)

    refused : (n : ℕ) → not (n == 0) ≡ true → n ≡ 0 → ⊥
    refused n e f = let g : not (0 == 0) ≡ true = rw f at e in let z : false ≡ true = g in cc

listed_by : (v : ℕ → ℤ) (f : Linear) (c : Ineq) → Holds v c → is_listed_by f c ≡ true → value v f ≢ pos 0
listed_by v f (Ge g) h e = absurd (let z : false ≡ true = e in cc)
listed_by v f (Ne g) h e = let s = same_form-true g f e in rw s at h

listed_sound : (known : List Ineq) (v : ℕ → ℤ) (f : Linear) → AllByRecursion (Holds v) known → listed known f ≡ true → value v f ≢ pos 0
listed_sound known v f k e = any_cases (Holds v) (value v f ≢ pos 0) (is_listed_by f) known (λ c h a. listed_by v f c h a) k e

minus_listed : (known : List Ineq) (v : ℕ → ℤ) (f : Linear) → AllByRecursion (Holds v) known → passes (listed known) (minus f) ≡ true → value v f ≢ pos 0
minus_listed known v f k e z =
    let u = plus_times (negsuc 0) f (constant_of (pos 0)) in
    let s = fit_by (listed known) (value v u ≢ pos 0) u (within u) (λ t. listed_sound known v u k t) e in
    s (omega (arith, ints, z, value-plus_times (negsuc 0) f (constant_of (pos 0)) v))

pub nonzero_sound : (known : List Ineq) (rs : List Span) (v : ℕ → ℤ) → InRanges rs v → AllByRecursion (Holds v) known → (f : Linear) → shown_nonzero known rs f ≡ true → value v f ≢ pos 0
nonzero_sound known rs v h k f e =
    or_cases _ _ (value v f ≢ pos 0) (above known rs v f h k)
    (or_cases _ _ (value v f ≢ pos 0) (below known rs v f h k)
    (or_cases _ _ (value v f ≢ pos 0) (rest_by (modulus rs f) (at_lows rs f) (value v f) (leaves_remainder rs f v h))
    (or_cases _ _ (value v f ≢ pos 0) (listed_sound known v f k) (minus_listed known v f k))))
    e
