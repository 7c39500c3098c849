-- The parts of a form are in order, and a form is known by its values.
use Rattle.std.specs.Prelude.{◌≡◌, ◌≢◌, ℕ, suc, ℤ, pos, ◌+ℤ◌, ◌*ℤ◌, List, [], ◌∷◌, ◌<◌, ◌≤◌, Some, None, nat_lt, Bool, true, false, unsigned_abs, ◌⊎◌, if◌then◌else◌, ◌==◌}
use Rattle.std.proofs.Common.{arith, refl, sym, ◌∙◌, cond, eqb, inl, inr}
use Rattle.std.proofs.lemmas.Int.{ints}
use Rattle.std.proofs.lemmas.Bool.Decides.{nat_tests}
use Rattle.cx_term.specs.Forms.{value_parts, IsOrdered}
use Rattle.cx_term.specs.Sums.{joined, here, with_part, with_parts, keep_part, is_zero}

pub ordered_weaker : (b c : ℕ) (ps : List (ℕ × ℤ)) → b ≤ c → IsOrdered c ps → IsOrdered b ps
ordered_weaker b c [] l h = tt
ordered_weaker b c (p ∷ ps) l h = (omega arith, h.1, h.2)

ordered_keep_by : (b s : ℕ) (k : ℤ) (ps : List (ℕ × ℤ)) (z : Bool) → is_zero k ≡ z → b ≤ s → IsOrdered (suc s) ps → IsOrdered b (cond z ps ((s, k) ∷ ps))
ordered_keep_by b s k ps true e l h = ordered_weaker b (suc s) ps (omega arith) h
ordered_keep_by b s k ps false e l h = (l, grind (arith, nat_tests), h)

pub ordered_keep : (b s : ℕ) (k : ℤ) (ps : List (ℕ × ℤ)) → b ≤ s → IsOrdered (suc s) ps → IsOrdered b (keep_part s k ps)
ordered_keep b s k ps l h = ordered_keep_by b s k ps (is_zero k) refl l h

ordered_here_by : (b s : ℕ) (k : ℤ) (p : ℕ × ℤ) (ps : List (ℕ × ℤ)) (t : Bool) → eqb p.0 s ≡ t → b ≤ s → IsOrdered s (p ∷ ps) → IsOrdered b (joined (cond t (Some p.1) None) s k (p ∷ ps))
ordered_here_by b s k p ps true e l h = let f : p.0 ≡ s = grind (arith, nat_tests) in ordered_keep b s (p.1 +ℤ k) ps l (ordered_weaker (suc s) (suc p.0) ps (omega arith) h.2)
ordered_here_by b s k p ps false e l h = let f : p.0 ≢ s = grind (arith, nat_tests) in ordered_keep b s k (p ∷ ps) l (omega arith, h.1, h.2)

pub ordered_here : (b s : ℕ) (k : ℤ) (ps : List (ℕ × ℤ)) → b ≤ s → IsOrdered s ps → IsOrdered b (here s k ps)
ordered_here b s k [] l h = ordered_keep b s k [] l tt
ordered_here b s k (p ∷ ps) l h = ordered_here_by b s k p ps (eqb p.0 s) refl l h

ordered_by : (b s : ℕ) (k : ℤ) (p : ℕ × ℤ) (ps qs : List (ℕ × ℤ)) (t : Bool) → nat_lt p.0 s ≡ t → b ≤ s → IsOrdered b (p ∷ ps) → (suc p.0 ≤ s → IsOrdered (suc p.0) qs) → IsOrdered b (cond t (p ∷ qs) (here s k (p ∷ ps)))
ordered_by b s k p ps qs true e l h ih = let f : p.0 < s = grind (arith, nat_tests) in (h.0, h.1, ih f)
ordered_by b s k p ps qs false e l h ih = let f : s ≤ p.0 = grind (arith, nat_tests) in ordered_here b s k (p ∷ ps) l (f, h.1, h.2)

pub ordered_with_part : (b s : ℕ) (k : ℤ) (ps : List (ℕ × ℤ)) → b ≤ s → IsOrdered b ps → IsOrdered b (with_part s k ps)
ordered_with_part b s k [] l h = ordered_keep b s k [] l tt
ordered_with_part b s k (p ∷ ps) l h = ordered_by b s k p ps _ (nat_lt p.0 s) refl l h (λ m. ordered_with_part (suc p.0) s k ps m h.2)

pub ordered_with_parts : (k : ℤ) (qs ps : List (ℕ × ℤ)) → IsOrdered 0 ps → IsOrdered 0 (with_parts k qs ps)
ordered_with_parts k [] ps h = h
ordered_with_parts k (q ∷ qs) ps h = ordered_with_parts k qs (with_part q.0 (k *ℤ q.1) ps) (ordered_with_part 0 q.0 (k *ℤ q.1) ps (omega arith) h)

-- ---- the value at a delta is the coefficient
-- the symbols' values that are 0 but for s, which is 1
abbrev pub delta : ℕ → ℕ → ℤ
delta s x = if x == s then pos 1 else pos 0

delta_by : (s x : ℕ) (t : Bool) → eqb x s ≡ t → x ≢ s → cond t (pos 1) (pos 0) ≡ pos 0
delta_by s x true e h = absurd (grind (arith, nat_tests))
delta_by s x false e h = refl

pub delta-other : (s x : ℕ) → x ≢ s → delta s x ≡ pos 0
delta-other s x h = delta_by s x (eqb x s) refl h

delta_same_by : (s : ℕ) (t : Bool) → eqb s s ≡ t → cond t (pos 1) (pos 0) ≡ pos 1
delta_same_by s true e = refl
delta_same_by s false e = absurd (grind (arith, nat_tests))

pub delta-same : (s : ℕ) → delta s s ≡ pos 1
delta-same s = delta_same_by s (eqb s s) refl

pub value-below : (b s : ℕ) (ps : List (ℕ × ℤ)) → s < b → IsOrdered b ps → value_parts (delta s) ps ≡ pos 0
value-below b s [] l h = refl
value-below b s (p ∷ ps) l h =
    let d = delta-other s p.0 (omega arith) in
    let ih = value-below (suc p.0) s ps (omega arith) h.2 in
    rw (d, ih) (omega (arith, ints))

pub value-head : (s : ℕ) (p : ℕ × ℤ) (ps : List (ℕ × ℤ)) → p.0 ≡ s → IsOrdered (suc p.0) ps → value_parts (delta s) (p ∷ ps) ≡ p.1
value-head s p ps e h =
    let d : delta s p.0 ≡ pos 1 = rw e (delta-same s) in
    let ih = value-below (suc p.0) s ps (omega arith) h in
    rw (d, ih) (omega (arith, ints))

not_zero : (z : ℤ) → 0 < unsigned_abs z → z ≡ pos 0 → ⊥
not_zero z h e = omega (arith, ints)

pub order3 : (a b : ℕ) → (a < b) ⊎ ((a ≡ b) ⊎ (b < a))
order3 a b = grind arith

tails_by : (v : ℕ → ℤ) (p q : ℕ × ℤ) (ps qs : List (ℕ × ℤ)) → p.0 ≡ q.0 → p.1 ≡ q.1 → value_parts v (p ∷ ps) ≡ value_parts v (q ∷ qs) → value_parts v ps ≡ value_parts v qs
tails_by v p q ps qs m c e =
    let w : p.1 *ℤ v p.0 ≡ q.1 *ℤ v q.0 = cc in
    omega (arith, ints, e, w)

cases_by : (p q : ℕ × ℤ) (ps qs : List (ℕ × ℤ)) → (0 < unsigned_abs p.1) → (0 < unsigned_abs q.1) → IsOrdered (suc p.0) ps → IsOrdered (suc q.0) qs → ((v : ℕ → ℤ) → value_parts v (p ∷ ps) ≡ value_parts v (q ∷ qs)) → (IsOrdered (suc p.0) qs → ((v : ℕ → ℤ) → value_parts v ps ≡ value_parts v qs) → ps ≡ qs) → (p.0 < q.0) ⊎ ((p.0 ≡ q.0) ⊎ (q.0 < p.0)) → p ∷ ps ≡ q ∷ qs
cases_by p q ps qs np nq g h e ih (inl l) =
    absurd (not_zero p.1 np (sym (value-head p.0 p ps refl g) ∙ e (delta p.0) ∙ value-below q.0 p.0 (q ∷ qs) l (omega arith, nq, h)))
cases_by p q ps qs np nq g h e ih (inr (inr l)) =
    absurd (not_zero q.1 nq (sym (value-head q.0 q qs refl h) ∙ sym (e (delta q.0)) ∙ value-below p.0 q.0 (p ∷ ps) l (omega arith, np, g)))
cases_by p q ps qs np nq g h e ih (inr (inl m)) =
    let c : p.1 ≡ q.1 = sym (value-head p.0 p ps refl g) ∙ e (delta p.0) ∙ value-head p.0 q qs (sym m) h in
    let t : ps ≡ qs = ih (rw m h) (λ v. tails_by v p q ps qs m c (e v)) in
    let a : ◌≡◌ {A = ℕ × ℤ} (p.0, p.1) (q.0, q.1) = cc in
    let b : p ≡ q = a in
    cc

-- two lists of parts in order that have the same value everywhere are one
pub unique : (b c : ℕ) (ps qs : List (ℕ × ℤ)) → IsOrdered b ps → IsOrdered c qs → ((v : ℕ → ℤ) → value_parts v ps ≡ value_parts v qs) → ps ≡ qs
unique b c [] [] g h e = refl
unique b c [] (q ∷ qs) g h e = absurd (not_zero q.1 h.1 (sym (value-head q.0 q qs refl h.2) ∙ sym (e (delta q.0))))
unique b c (p ∷ ps) [] g h e = absurd (not_zero p.1 g.1 (sym (value-head p.0 p ps refl g.2) ∙ e (delta p.0)))
unique b c (p ∷ ps) (q ∷ qs) g h e =
    cases_by p q ps qs g.1 h.1 g.2 h.2 e (λ o f. unique (suc p.0) (suc p.0) ps qs g.2 o f) (order3 p.0 q.0)
