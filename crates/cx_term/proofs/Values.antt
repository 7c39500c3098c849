-- The laws of linear forms.
use Rattle.std.specs.Prelude.{◌≡◌, ◌≢◌, ℕ, suc, ℤ, pos, negsuc, ◌+ℤ◌, ◌*ℤ◌, List, [], ◌∷◌, ◌++◌, ◌≤◌, Some, None, nat_lt, Bool, true, false, take, drop, remove, length}
use Rattle.std.proofs.Common.{arith, refl, ap, ◌∙◌, cond, eqb, add-one}
use Rattle.std.proofs.lemmas.Int.{ints}
use Rattle.std.proofs.lemmas.Bool.Decides.{nat_tests}
use Rattle.std.proofs.lemmas.List.{take_at, drop_at, length-take-le, drop-drop}
use Rattle.cx_term.specs.Forms.{value_parts}
use Rattle.cx_term.specs.Sums.{head_of, joined, here, with_part, with_parts, keep_part, is_zero, place_in}
use Rattle.cx_term.proofs.Ring.{mul-add, mul_assoc, mul-add_left}

pub is_zero-true : (z : ℤ) → is_zero z ≡ true → z ≡ pos 0
is_zero-true (pos n) e = ap pos (grind (arith, nat_tests))
is_zero-true (negsuc n) e = absurd (grind (arith, nat_tests))

keep_by : (v : ℕ → ℤ) (s : ℕ) (k : ℤ) (ps : List (ℕ × ℤ)) (b : Bool) → is_zero k ≡ b → value_parts v (cond b ps ((s, k) ∷ ps)) ≡ k *ℤ v s +ℤ value_parts v ps
keep_by v s k ps true e = let z = is_zero-true k e in rw z (omega (arith, ints))
keep_by v s k ps false e = refl

pub value-keep_part : (v : ℕ → ℤ) (s : ℕ) (k : ℤ) (ps : List (ℕ × ℤ)) → value_parts v (keep_part s k ps) ≡ k *ℤ v s +ℤ value_parts v ps
value-keep_part v s k ps = keep_by v s k ps (is_zero k) refl

here_by : (v : ℕ → ℤ) (s : ℕ) (k : ℤ) (p : ℕ × ℤ) (ps : List (ℕ × ℤ)) (b : Bool) → eqb p.0 s ≡ b → value_parts v (joined (cond b (Some p.1) None) s k (p ∷ ps)) ≡ k *ℤ v s +ℤ (p.1 *ℤ v p.0 +ℤ value_parts v ps)
here_by v s k p ps true e = let f : p.0 ≡ s = grind (arith, nat_tests) in rw f (omega (arith, ints, value-keep_part v s (p.1 +ℤ k) ps, mul-add p.1 k (v s)))
here_by v s k p ps false e = value-keep_part v s k (p ∷ ps)

pub value-here : (v : ℕ → ℤ) (s : ℕ) (k : ℤ) (ps : List (ℕ × ℤ)) → value_parts v (here s k ps) ≡ k *ℤ v s +ℤ value_parts v ps
value-here v s k [] = value-keep_part v s k []
value-here v s k (p ∷ ps) = here_by v s k p ps (eqb p.0 s) refl

place_by : (v : ℕ → ℤ) (s : ℕ) (k : ℤ) (p : ℕ × ℤ) (ps qs : List (ℕ × ℤ)) (b : Bool) → value_parts v qs ≡ k *ℤ v s +ℤ value_parts v ps → value_parts v (cond b (p ∷ qs) (here s k (p ∷ ps))) ≡ k *ℤ v s +ℤ (p.1 *ℤ v p.0 +ℤ value_parts v ps)
place_by v s k p ps qs true ih = omega (arith, ints)
place_by v s k p ps qs false ih = value-here v s k (p ∷ ps)

pub value-with_part : (v : ℕ → ℤ) (s : ℕ) (k : ℤ) (ps : List (ℕ × ℤ)) → value_parts v (with_part s k ps) ≡ k *ℤ v s +ℤ value_parts v ps
value-with_part v s k [] = value-here v s k []
value-with_part v s k (p ∷ ps) = place_by v s k p ps _ (nat_lt p.0 s) (value-with_part v s k ps)

pub value-with_parts : (v : ℕ → ℤ) (k : ℤ) (qs ps : List (ℕ × ℤ)) → value_parts v (with_parts k qs ps) ≡ k *ℤ value_parts v qs +ℤ value_parts v ps
value-with_parts v k [] ps = omega (arith, ints)
value-with_parts v k (q ∷ qs) ps =
    omega (arith, ints, value-with_parts v k qs (with_part q.0 (k *ℤ q.1) ps), value-with_part v q.0 (k *ℤ q.1) ps, mul_assoc k q.1 (v q.0), mul-add_left k (q.1 *ℤ v q.0) (value_parts v qs))

-- ---- the place of a symbol
at_by : (s : ℕ) (k : ℤ) (p : ℕ × ℤ) (ps qs : List (ℕ × ℤ)) (i : ℕ) (b : Bool) → qs ≡ take i ps ++ here s k (drop i ps) → cond b (p ∷ qs) (here s k (p ∷ ps)) ≡ take (cond b (suc i) 0) (p ∷ ps) ++ here s k (drop (cond b (suc i) 0) (p ∷ ps))
at_by s k p ps qs i true ih = ap (λ r. p ∷ r) ih
at_by s k p ps qs i false ih = refl

pub with_part_at : (s : ℕ) (k : ℤ) (ps : List (ℕ × ℤ)) → with_part s k ps ≡ take (place_in s ps) ps ++ here s k (drop (place_in s ps) ps)
with_part_at s k [] = refl
with_part_at s k (p ∷ ps) = at_by s k p ps _ (place_in s ps) (nat_lt p.0 s) (with_part_at s k ps)

keep_zero_by : (s : ℕ) (k : ℤ) (r : List (ℕ × ℤ)) (b : Bool) → is_zero k ≡ b → k ≡ pos 0 → cond b r ((s, k) ∷ r) ≡ r
keep_zero_by s k r true e h = refl
keep_zero_by s k r false e h = absurd (let z : is_zero (pos 0) ≡ false = rw h at e in cc)

keep_more_by : (s : ℕ) (k : ℤ) (r : List (ℕ × ℤ)) (b : Bool) → is_zero k ≡ b → k ≢ pos 0 → cond b r ((s, k) ∷ r) ≡ (s, k) ∷ r
keep_more_by s k r true e h = absurd (h (is_zero-true k e))
keep_more_by s k r false e h = refl

pub keep-zero : (s : ℕ) (k : ℤ) (r : List (ℕ × ℤ)) → k ≡ pos 0 → keep_part s k r ≡ r
keep-zero s k r h = keep_zero_by s k r (is_zero k) refl h

pub keep-more : (s : ℕ) (k : ℤ) (r : List (ℕ × ℤ)) → k ≢ pos 0 → keep_part s k r ≡ (s, k) ∷ r
keep-more s k r h = keep_more_by s k r (is_zero k) refl h

-- the code's way: remove the part, and put it again with the sum
pub with_part_some : (s : ℕ) (k c : ℤ) (ps : List (ℕ × ℤ)) (i : ℕ) → i ≡ place_in s ps → i ≤ length ps → Some c ≡ head_of s (drop i ps) → take i (remove ps i) ++ keep_part s (c +ℤ k) (drop i (remove ps i)) ≡ with_part s k ps
with_part_some s k c ps i e l h =
    let n = length-take-le i ps l in
    let t = take_at (take i ps) (drop (suc i) ps) i n in
    let d = drop_at (take i ps) (drop (suc i) ps) i n in
    let d' : drop 1 (drop i ps) ≡ drop (suc i) ps = drop-drop 1 i ps ∙ ap (λ (j : ℕ). drop j ps) (add-one i) in
    let w : with_part s k ps ≡ take i ps ++ here s k (drop i ps) = rw e (with_part_at s k ps) in
    rw (t, d, w, ← h, d')

pub with_part_none : (s : ℕ) (k : ℤ) (ps : List (ℕ × ℤ)) (i : ℕ) → i ≡ place_in s ps → None ≡ head_of s (drop i ps) → take i ps ++ keep_part s k (drop i ps) ≡ with_part s k ps
with_part_none s k ps i e h =
    let w : with_part s k ps ≡ take i ps ++ here s k (drop i ps) = rw e (with_part_at s k ps) in
    rw (w, ← h)
