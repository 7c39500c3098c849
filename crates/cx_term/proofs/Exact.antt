-- A form in order is known by its values: so what passes the limits has no form within them.
use Rattle.std.specs.Prelude.{◌≡◌, ◌≢◌, ℕ, suc, ℤ, pos, ◌+ℤ◌, ◌*ℤ◌, List, [], ◌∷◌, ◌<◌, Option, Some, None, Bool, true, false}
use Rattle.std.proofs.Common.{arith, refl, sym, ap, ◌∙◌, cond, eqb}
use Rattle.std.proofs.lemmas.Int.{ints}
use Rattle.std.proofs.lemmas.Bool.Decides.{nat_tests}
use Rattle.cx_term.specs.Forms.{Linear, within, fit, value_parts, value, constant_of, IsOrdered, Means, IsExactly}
use Rattle.cx_term.specs.Sums.{plus_times}
use Rattle.cx_term.specs.Replaced.{coefficient, without, with_value, put}
use Rattle.cx_term.proofs.Ring.{mul-add_left}
use Rattle.cx_term.proofs.Values.{value-with_parts}
use Rattle.cx_term.proofs.Canonical.{unique, ordered_with_parts}
use Rattle.cx_term.proofs.Limits.{ordered_without}

pub value-plus_times : (k : ℤ) (o t : Linear) (v : ℕ → ℤ) → value v (plus_times k o t) ≡ value v t +ℤ k *ℤ value v o
value-plus_times k o t v = omega (arith, ints, value-with_parts v k o.parts t.parts, mul-add_left k o.konst (value_parts v o.parts))

-- all symbols' values are 0
zeros : ℕ → ℤ
zeros x = pos 0

value_parts-zeros : (ps : List (ℕ × ℤ)) → value_parts zeros ps ≡ pos 0
unfolding zeros
value_parts-zeros [] = refl
value_parts-zeros (p ∷ ps) = rw (value_parts-zeros ps) (omega (arith, ints))

pub same_form : (t u : Linear) → IsOrdered 0 t.parts → IsOrdered 0 u.parts → ((v : ℕ → ℤ) → value v t ≡ value v u) → t ≡ u
same_form t u g h e =
    let k : t.konst ≡ u.konst = omega (arith, ints, e zeros, value_parts-zeros t.parts, value_parts-zeros u.parts) in
    let p : t.parts ≡ u.parts = unique 0 0 t.parts u.parts g h (λ v. omega (arith, ints, e v, k)) in
    let r : ◌≡◌ {A = Linear} (record { konst = t.konst; parts = t.parts }) (record { konst = u.konst; parts = u.parts }) = rw (k, p) refl in
    r

exactly_by : (t : Linear) (meant : (ℕ → ℤ) → ℤ) (b : Bool) → within t ≡ b → IsOrdered 0 t.parts → Means meant t → IsExactly meant (cond b (Some t) None)
exactly_by t meant true e o m = record { some = m; none = tt }
exactly_by t meant false e o m =
    record {
      some = tt;
      none = λ u g f.
          let s = same_form t u o g.ordered (λ v. m v ∙ sym (f v)) in
          let w : within t ≡ true = ap within s ∙ g.limits in
          let z : false ≡ true = sym e ∙ w in
          cc;
    }

-- a form in order, where it is within the limits, is the answer of its meaning
pub exactly : (t : Linear) (meant : (ℕ → ℤ) → ℤ) → IsOrdered 0 t.parts → Means meant t → IsExactly meant (fit t)
exactly t meant o m = exactly_by t meant (within t) refl o m

pub exactly-same : (a b : (ℕ → ℤ) → ℤ) (r : Option Linear) → ((v : ℕ → ℤ) → a v ≡ b v) → IsExactly a r → IsExactly b r
exactly-same a b None e h = record { some = tt; none = λ t g f. h.none t g (λ v. f v ∙ sym (e v)) }
exactly-same a b (Some t) e h = record { some = λ v. h.some v ∙ e v; none = tt }

pub exactly-constant : (z : ℤ) → IsExactly (λ v. z) (fit (constant_of z))
exactly-constant z = exactly (constant_of z) (λ v. z) tt (λ v. omega (arith, ints))

pub exactly-plus_times : (k : ℤ) (o t : Linear) → IsOrdered 0 t.parts → IsExactly (λ v. value v t +ℤ k *ℤ value v o) (fit (plus_times k o t))
exactly-plus_times k o t h = exactly (plus_times k o t) (λ v. value v t +ℤ k *ℤ value v o) (ordered_with_parts k o.parts t.parts h) (value-plus_times k o t)

hit_by : (s : ℕ) (z : ℤ) (v : ℕ → ℤ) (t : Bool) → eqb s s ≡ t → cond t z (v s) ≡ z
hit_by s z v true e = refl
hit_by s z v false e = absurd (grind (arith, nat_tests))

hit : (s : ℕ) (z : ℤ) (v : ℕ → ℤ) → with_value s z v s ≡ z
hit s z v = hit_by s z v (eqb s s) refl

other_by : (s x : ℕ) (z : ℤ) (v : ℕ → ℤ) (t : Bool) → eqb x s ≡ t → x ≢ s → cond t z (v x) ≡ v x
other_by s x z v true e h = absurd (grind (arith, nat_tests))
other_by s x z v false e h = refl

other : (s x : ℕ) (z : ℤ) (v : ℕ → ℤ) → x ≢ s → with_value s z v x ≡ v x
other s x z v h = other_by s x z v (eqb x s) refl h

none_by : (s : ℕ) (p : ℕ × ℤ) (ps : List (ℕ × ℤ)) (t : Bool) → eqb p.0 s ≡ t → p.0 ≢ s → without s ps ≡ ps → cond t (without s ps) (p ∷ without s ps) ≡ p ∷ ps
none_by s p ps true e h ih = absurd (grind (arith, nat_tests))
none_by s p ps false e h ih = ap (λ r. p ∷ r) ih

-- ---- a symbol replaced
same_below : (s b : ℕ) (z : ℤ) (v : ℕ → ℤ) (ps : List (ℕ × ℤ)) → s < b → IsOrdered b ps → value_parts (with_value s z v) ps ≡ value_parts v ps
same_below s b z v [] l o = refl
same_below s b z v (p ∷ ps) l o = rw (other s p.0 z v (omega (arith, o.0)), same_below s (suc p.0) z v ps (omega (arith, o.0)) o.2) refl

put_by : (s b : ℕ) (z : ℤ) (v : ℕ → ℤ) (p : ℕ × ℤ) (ps : List (ℕ × ℤ)) (t : Bool) → eqb p.0 s ≡ t → IsOrdered b (p ∷ ps) → value_parts (with_value s z v) ps ≡ value_parts v (without s ps) +ℤ coefficient s ps *ℤ z → (p.0 ≡ s → without s ps ≡ ps) → p.1 *ℤ with_value s z v p.0 +ℤ value_parts (with_value s z v) ps ≡ value_parts v (cond t (without s ps) (p ∷ without s ps)) +ℤ cond t p.1 (coefficient s ps) *ℤ z
put_by s b z v p ps true e o ih w =
    let f : p.0 ≡ s = grind (arith, nat_tests) in
    let g = same_below s (suc p.0) z v ps (omega arith) o.2 in
    let a : with_value s z v p.0 ≡ z = rw f (hit s z v) in
    rw (w f, a, g) (omega (arith, ints))
put_by s b z v p ps false e o ih w =
    let f : p.0 ≢ s = grind (arith, nat_tests) in
    rw (other s p.0 z v f, ih) (omega (arith, ints))

none_below : (s b : ℕ) (ps : List (ℕ × ℤ)) → s < b → IsOrdered b ps → without s ps ≡ ps
none_below s b [] l o = refl
none_below s b (p ∷ ps) l o = none_by s p ps (eqb p.0 s) refl (omega (arith, o.0)) (none_below s (suc p.0) ps (omega (arith, o.0)) o.2)

pub value-put_parts : (s b : ℕ) (z : ℤ) (v : ℕ → ℤ) (ps : List (ℕ × ℤ)) → IsOrdered b ps → value_parts (with_value s z v) ps ≡ value_parts v (without s ps) +ℤ coefficient s ps *ℤ z
value-put_parts s b z v [] o = omega (arith, ints)
value-put_parts s b z v (p ∷ ps) o = put_by s b z v p ps (eqb p.0 s) refl o (value-put_parts s (suc p.0) z v ps o.2) (λ e. none_below s (suc p.0) ps (omega arith) o.2)

-- the value after the replacement is the value where the symbol has that of the other
pub value-put : (s : ℕ) (o t : Linear) (v : ℕ → ℤ) → IsOrdered 0 t.parts → value v (put s o t) ≡ value (with_value s (value v o) v) t
value-put s o t v h =
    omega (arith, ints, value-plus_times (coefficient s t.parts) o (record { konst = t.konst; parts = without s t.parts }) v, value-put_parts s 0 (value v o) v t.parts h)

pub exactly-put : (s : ℕ) (o t : Linear) → IsOrdered 0 t.parts → IsExactly (λ v. value (with_value s (value v o) v) t) (fit (put s o t))
exactly-put s o t h =
    exactly (put s o t) (λ v. value (with_value s (value v o) v) t) (ordered_with_parts (coefficient s t.parts) o.parts (without s t.parts) (ordered_without s 0 t.parts h)) (λ v. value-put s o t v h)
