-- All symbols of a form replaced at once.
use Rattle.std.specs.Prelude.{◌≡◌, ℕ, suc, ℤ, pos, ◌+ℤ◌, ◌*ℤ◌, ◌+◌, ◌*◌, ◌^◌, ◌≤◌, ◌<◌, drop, List, [], ◌∷◌, length, unsigned_abs, nat_le, true}
use Rattle.std.specs.List.{AllByRecursion}
use Rattle.std.proofs.Common.{arith, sym, ap, ◌∙◌, get_or}
use Rattle.std.proofs.lemmas.Int.{ints}
use Rattle.std.proofs.lemmas.List.{drop_more}
use Rattle.cx_term.specs.Forms.{Linear, IsTerm, value, value_parts, constant_of, IsOrdered, parts_within, within, fit, IsExactly}
use Rattle.cx_term.specs.Sums.{with_part, with_parts, plus_times, AreUpTo}
use Rattle.cx_term.specs.Replaced.{form_at, put_all, values_of, replaced_konst, replaced_parts}
use Rattle.cx_term.proofs.Ring.{mul-add_left, mul_assoc}
use Rattle.cx_term.proofs.Tests.{and_both}
use Rattle.cx_term.proofs.Canonical.{ordered_with_parts}
use Rattle.cx_term.proofs.Limits.{up_to-weaker, up_to-at, up_to-with_part, length-with_part, times_fits, term-up_to}
use Rattle.cx_term.proofs.Exact.{value-plus_times, exactly}

-- t and the parts, each symbol s replaced by the form at s
abbrev pub put_parts : List Linear → List (ℕ × ℤ) → Linear → Linear
put_parts ts ps t = record { konst = replaced_konst ts ps t.konst; parts = replaced_parts ts ps t.parts }

value-put_parts : (v : ℕ → ℤ) (ts : List Linear) (ps : List (ℕ × ℤ)) (t : Linear) → value v (put_parts ts ps t) ≡ value v t +ℤ value_parts (values_of ts v) ps
value-put_parts v ts [] t = omega (arith, ints)
value-put_parts v ts (p ∷ ps) t = omega (arith, ints, value-put_parts v ts ps (plus_times p.1 (form_at ts p.0) t), value-plus_times p.1 (form_at ts p.0) t v)

pub value-put_all : (v : ℕ → ℤ) (ts : List Linear) (t : Linear) → value v (put_all ts t) ≡ value (values_of ts v) t
value-put_all v ts t = omega (arith, ints, value-put_parts v ts t.parts (constant_of t.konst))

ordered-replaced_parts : (ts : List Linear) (ps qs : List (ℕ × ℤ)) → IsOrdered 0 qs → IsOrdered 0 (replaced_parts ts ps qs)
ordered-replaced_parts ts [] qs h = h
ordered-replaced_parts ts (p ∷ ps) qs h = ordered-replaced_parts ts ps (with_parts p.1 (form_at ts p.0).parts qs) (ordered_with_parts p.1 (form_at ts p.0).parts qs h)

pub ordered-put_all : (ts : List Linear) (t : Linear) → IsOrdered 0 (put_all ts t).parts
ordered-put_all ts t = ordered-replaced_parts ts t.parts [] tt

pub exactly-put_all : (ts : List Linear) (t : Linear) → IsExactly (λ v. value (values_of ts v) t) (fit (put_all ts t))
exactly-put_all ts t = exactly (put_all ts t) (λ v. value (values_of ts v) t) (ordered-put_all ts t) (λ v. value-put_all v ts t)

-- one more part's constant, cut in two
pub konst_step : (ts : List Linear) (ps : List (ℕ × ℤ)) (i : ℕ) (low high a b k : ℤ) → i < length ps → (get_or ps i (0, pos 0)).1 *ℤ k ≡ a +ℤ b *ℤ pos (2 ^ 64) → k ≡ (form_at ts (get_or ps i (0, pos 0)).0).konst → replaced_konst ts (drop (i + 1) ps) ((low +ℤ a) +ℤ (high +ℤ b) *ℤ pos (2 ^ 64)) ≡ replaced_konst ts (drop i ps) (low +ℤ high *ℤ pos (2 ^ 64))
konst_step ts ps i low high a b k l e f =
    let p = get_or ps i (0, pos 0) in
    let g : p.1 *ℤ (form_at ts p.0).konst ≡ a +ℤ b *ℤ pos (2 ^ 64) = ap (λ x. p.1 *ℤ x) (sym f) ∙ e in
    let s : (low +ℤ a) +ℤ (high +ℤ b) *ℤ pos (2 ^ 64) ≡ (low +ℤ high *ℤ pos (2 ^ 64)) +ℤ p.1 *ℤ (form_at ts p.0).konst = omega (arith, ints, g) in
    ap (λ z. replaced_konst ts (drop (i + 1) ps) z) s ∙ sym (ap (λ xs. replaced_konst ts xs (low +ℤ high *ℤ pos (2 ^ 64))) (drop_more ps i (0, pos 0) l))

pub halves_product : (c z a b x y : ℤ) → z ≡ a +ℤ b *ℤ pos (2 ^ 64) → x ≡ c *ℤ a → y ≡ c *ℤ b → c *ℤ z ≡ x +ℤ y *ℤ pos (2 ^ 64)
halves_product c z a b x y e f g =
    ap (λ w. c *ℤ w) e ∙ omega (arith, ints, f, mul-add_left c a (b *ℤ pos (2 ^ 64)), sym (mul_assoc c b (pos (2 ^ 64))) ∙ ap (λ w. w *ℤ pos (2 ^ 64)) (sym g))

pub length-with_parts : (k : ℤ) (qs ps : List (ℕ × ℤ)) → length (with_parts k qs ps) ≤ length ps + length qs
length-with_parts k [] ps = omega arith
length-with_parts k (q ∷ qs) ps = omega (arith, length-with_parts k qs (with_part q.0 (k *ℤ q.1) ps), length-with_part q.0 (k *ℤ q.1) ps)

pub up_to-with_parts : (n m : ℕ) (k : ℤ) (qs ps : List (ℕ × ℤ)) → AllByRecursion (λ q. unsigned_abs (k *ℤ q.1) ≤ m) qs → AreUpTo n ps → AreUpTo (n + length qs * m) (with_parts k qs ps)
up_to-with_parts n m k [] ps g h = up_to-weaker n _ ps (omega arith) h
up_to-with_parts n m k (q ∷ qs) ps g h =
    up_to-weaker (n + m + length qs * m) (n + suc (length qs) * m) _ (omega arith)
    (up_to-with_parts (n + m) m k qs (with_part q.0 (k *ℤ q.1) ps) g.1 (up_to-with_part n m q.0 (k *ℤ q.1) ps g.0 h))

-- a factor and coefficients of at most 2^32 give products of at most 2^64
pub products_small : (k : ℤ) (qs : List (ℕ × ℤ)) → unsigned_abs k ≤ 2 ^ 32 → AreUpTo (2 ^ 32) qs → AllByRecursion (λ q. unsigned_abs (k *ℤ q.1) ≤ 2 ^ 65) qs
products_small k [] g h = tt
products_small k (q ∷ qs) g h = (times_fits k q.1 (omega (arith, g)) (h.0), products_small k qs g h.1)

-- one more part's form
pub parts_step : (ts : List Linear) (ps qs rs : List (ℕ × ℤ)) (o : Linear) (i n : ℕ) → i < length ps → AreUpTo (2 ^ 32) ps → IsTerm o → length o.parts ≤ 4 → o ≡ form_at ts (get_or ps i (0, pos 0)).0 → rs ≡ with_parts (get_or ps i (0, pos 0)).1 o.parts qs → AreUpTo n qs → (replaced_parts ts (drop (i + 1) ps) rs ≡ replaced_parts ts (drop i ps) qs) × (length rs ≤ length qs + 4) × AreUpTo (n + 2 ^ 67) rs
parts_step ts ps qs rs o i n l u t f e r h =
    let p = get_or ps i (0, pos 0) in
    let s : replaced_parts ts (drop i ps) qs ≡ replaced_parts ts (drop (i + 1) ps) (with_parts p.1 (form_at ts p.0).parts qs) = ap (λ xs. replaced_parts ts xs qs) (drop_more ps i (0, pos 0) l) in
    let m = products_small p.1 o.parts (up_to-at (2 ^ 32) ps i (0, pos 0) l u) (term-up_to o t) in
    let z : rs ≡ with_parts p.1 (form_at ts p.0).parts qs = r ∙ ap (λ x. with_parts p.1 x.parts qs) e in (
      ap (λ x. replaced_parts ts (drop (i + 1) ps) x) z ∙ sym s,
      omega (arith, ap length r, length-with_parts p.1 o.parts qs, f),
      rw r (up_to-weaker (n + length o.parts * 2 ^ 65) (n + 2 ^ 67) _ (omega (arith, f)) (up_to-with_parts n (2 ^ 65) p.1 o.parts qs m h)),
    )

-- what the constant and the parts give is a form
pub replaced_is_term : (ts : List Linear) (z konst : ℤ) (ps rs : List (ℕ × ℤ)) → (nat_le (unsigned_abs (replaced_konst ts ps z)) (2 ^ 96) ≡ true) × (konst ≡ replaced_konst ts ps z) → (parts_within (replaced_parts ts ps []) ≡ true) × (rs ≡ replaced_parts ts ps []) → IsTerm (record { konst = konst; parts = rs })
replaced_is_term ts z konst ps rs e f =
    let t : within (record { konst = konst; parts = rs }) ≡ true = rw (e.1, f.1) (and_both _ _ e.0 f.0) in
    record { ordered = rw f.1 (ordered-replaced_parts ts ps [] tt); limits = t }
