-- Combinations of two forms.
use Rattle.std.specs.Prelude.{◌≡◌, ℕ, ℤ, pos, ◌+ℤ◌, ◌*ℤ◌, ◌+◌, ◌*◌, ◌^◌, ◌≤◌, List, [], length, unsigned_abs, nat_le, true}
use Rattle.std.proofs.Common.{arith, ap}
use Rattle.std.proofs.lemmas.Int.{ints}
use Rattle.cx_term.specs.Forms.{Linear, IsTerm, value, constant_of, parts_within, within, fit, IsOrdered, IsExactly}
use Rattle.cx_term.specs.Sums.{with_parts, plus_times, combined, plus_number, AreUpTo}
use Rattle.cx_term.proofs.Tests.{and_both}
use Rattle.cx_term.proofs.Canonical.{ordered_with_parts}
use Rattle.cx_term.proofs.Limits.{up_to-weaker}
use Rattle.cx_term.proofs.AllReplaced.{length-with_parts, up_to-with_parts, products_small}
use Rattle.cx_term.proofs.Exact.{value-plus_times, exactly, exactly-same, exactly-plus_times}

-- the parts of the first form's multiple are few and small
pub first_parts : (k : ℤ) (qs ps rs : List (ℕ × ℤ)) → unsigned_abs k ≤ 2 ^ 32 → AreUpTo (2 ^ 32) qs → length qs ≤ 4 → ps ≡ [] → rs ≡ with_parts k qs ps → (length rs ≤ 4) × AreUpTo (2 ^ 99) rs
first_parts k qs ps rs l u n e r =
    let s : rs ≡ with_parts k qs [] = rw e at r in (
      omega (arith, ap length s, length-with_parts k qs [], n),
      rw s (up_to-weaker (2 ^ 66 + length qs * 2 ^ 65) (2 ^ 99) (with_parts k qs []) (omega (arith, n)) (up_to-with_parts (2 ^ 66) (2 ^ 65) k qs [] (products_small k qs l u) tt)),
    )

pub combined-value : (c x y l h p q : ℤ) → x ≡ l +ℤ h *ℤ pos (2 ^ 64) → y ≡ p +ℤ q *ℤ pos (2 ^ 64) → ((c +ℤ l) +ℤ p) +ℤ (h +ℤ q) *ℤ pos (2 ^ 64) ≡ (c +ℤ x) +ℤ y
combined-value c x y l h p q e f = omega (arith, ints, e, f)

ordered-combined : (k m : ℤ) (ps qs : List (ℕ × ℤ)) → IsOrdered 0 (with_parts m qs (with_parts k ps []))
ordered-combined k m ps qs = ordered_with_parts m qs (with_parts k ps []) (ordered_with_parts k ps [] tt)

-- what the constant and the parts give is a form
pub combined_is_term : (z konst k m : ℤ) (ps qs rs : List (ℕ × ℤ)) → (nat_le (unsigned_abs z) (2 ^ 96) ≡ true) × (konst ≡ z) → (parts_within (with_parts m qs (with_parts k ps [])) ≡ true) × (rs ≡ with_parts m qs (with_parts k ps [])) → IsTerm (record { konst = konst; parts = rs })
combined_is_term z konst k m ps qs rs e f =
    let t : within (record { konst = konst; parts = rs }) ≡ true = rw (e.1, f.1) (and_both _ _ e.0 f.0) in
    record { ordered = rw f.1 (ordered-combined k m ps qs); limits = t }

pub value-combined : (v : ℕ → ℤ) (k : ℤ) (t : Linear) (m : ℤ) (o : Linear) (c : ℤ) → value v (combined k t m o c) ≡ (c +ℤ k *ℤ value v t) +ℤ m *ℤ value v o
value-combined v k t m o c = omega (arith, ints, value-plus_times m o (plus_times k t (constant_of c)) v, value-plus_times k t (constant_of c) v)

pub exactly-combined : (k : ℤ) (t : Linear) (m : ℤ) (o : Linear) (c : ℤ) → IsExactly (λ v. (c +ℤ k *ℤ value v t) +ℤ m *ℤ value v o) (fit (combined k t m o c))
exactly-combined k t m o c = exactly (combined k t m o c) (λ v. (c +ℤ k *ℤ value v t) +ℤ m *ℤ value v o) (ordered-combined k m t.parts o.parts) (λ v. value-combined v k t m o c)

pub value-plus_number : (v : ℕ → ℤ) (z : ℤ) (t : Linear) → value v (plus_number z t) ≡ value v t +ℤ z
value-plus_number v z t = omega (arith, ints, value-plus_times (pos 1) (constant_of z) t v)

pub exactly-plus_number : (z : ℤ) (t : Linear) → IsOrdered 0 t.parts → IsExactly (λ v. value v t +ℤ z) (fit (plus_number z t))
exactly-plus_number z t h = exactly-same _ _ (fit (plus_number z t)) (λ v. omega (arith, ints)) (exactly-plus_times (pos 1) (constant_of z) t h)
