-- Lists of facts and ranges with one more, and values with one more.
use Rattle.std.specs.Prelude.{◌≡◌, ◌≢◌, ℕ, zero, suc, ℤ, ◌<◌, ◌==◌, List, [], ◌∷◌, ◌++◌, length, slice_set, Option, Some, Bool, true, false, ◌⊎◌, if◌then◌else◌}
use Rattle.std.proofs.Common.{arith, refl, ap, inl, inr}
use Rattle.std.proofs.lemmas.Bool.Decides.{nat_tests}
use Rattle.cx_term.specs.Replaced.{with_value}
use Rattle.cx_entail.specs.Bounds.{InRanges, range_at}
use Rattle.cx_entail.specs.Ranges.{Span, Has}
use Rattle.cx_state.specs.Known.{fact_at}
use Rattle.cx_state.specs.declared.state.Fact.{Fact}
use Rattle.cx_opens.specs.Opened.{Agree}

pub fact_push-old : (fs : List (Option Fact)) (o : Option Fact) (s : ℕ) (f : Fact) → fact_at fs s ≡ Some f → fact_at (fs ++ o ∷ []) s ≡ Some f
fact_push-old [] o s f e = absurd (cc)
fact_push-old (x ∷ fs) o zero f e = e
fact_push-old (x ∷ fs) o (suc s) f e = fact_push-old fs o s f e

next_by : (x : Option Fact) (fs : List (Option Fact)) (o : Option Fact) (s : ℕ) (f : Fact) → (fact_at fs s ≡ Some f) ⊎ ((s ≡ length fs) × (o ≡ Some f)) → (fact_at fs s ≡ Some f) ⊎ ((suc s ≡ length (x ∷ fs)) × (o ≡ Some f))
next_by x fs o s f (inl e) = inl e
next_by x fs o s f (inr p) = inr (omega (arith, p.0), p.1)

pub fact_push-cases : (fs : List (Option Fact)) (o : Option Fact) (s : ℕ) (f : Fact) → fact_at (fs ++ o ∷ []) s ≡ Some f → (fact_at fs s ≡ Some f) ⊎ ((s ≡ length fs) × (o ≡ Some f))
fact_push-cases [] o zero f e = inr (refl, e)
fact_push-cases [] o (suc s) f e = absurd (cc)
fact_push-cases (x ∷ fs) o zero f e = inl e
fact_push-cases (x ∷ fs) o (suc s) f e = next_by x fs o s f (fact_push-cases fs o s f e)

pub fact_push-at : (fs : List (Option Fact)) (o : Option Fact) → fact_at (fs ++ o ∷ []) (length fs) ≡ o
fact_push-at [] o = refl
fact_push-at (x ∷ fs) o = fact_push-at fs o

range_push-at : (rs : List Span) (r : Span) → range_at (rs ++ r ∷ []) (length rs) ≡ r
range_push-at [] r = refl
range_push-at (x ∷ rs) r = range_push-at rs r

range_push-other : (rs : List Span) (r : Span) (s : ℕ) → s ≢ length rs → range_at (rs ++ r ∷ []) s ≡ range_at rs s
range_push-other [] r zero n = absurd (n refl)
range_push-other [] r (suc s) n = refl
range_push-other (x ∷ rs) r zero n = refl
range_push-other (x ∷ rs) r (suc s) n = range_push-other rs r s (λ e. n (omega (arith, e)))

with_by : (s x : ℕ) (z : ℤ) (v : ℕ → ℤ) (b : Bool) → (x == s) ≡ b → x ≢ s → (if b then z else v x) ≡ v x
with_by s x z v true e n = absurd (n (grind (arith, nat_tests)))
with_by s x z v false e n = refl

pub with_value-other : (s x : ℕ) (z : ℤ) (v : ℕ → ℤ) → x ≢ s → with_value s z v x ≡ v x
with_value-other s x z v n = with_by s x z v (x == s) refl n

at_by : (s x : ℕ) (z : ℤ) (v : ℕ → ℤ) (b : Bool) → (x == s) ≡ b → x ≡ s → (if b then z else v x) ≡ z
at_by s x z v true e h = refl
at_by s x z v false e h = absurd (grind (arith, nat_tests))

pub with_value-at : (s : ℕ) (z : ℤ) (v : ℕ → ℤ) → with_value s z v s ≡ z
with_value-at s z v = at_by s s z v (s == s) refl refl

pub with_value-agrees : (n : ℕ) (z : ℤ) (v : ℕ → ℤ) → Agree n v (with_value n z v)
with_value-agrees n z v s l = with_value-other n s z v (λ e. omega (arith, e, l))

pub same_or_not : (i j : ℕ) → (i ≡ j) ⊎ (i ≢ j)
same_or_not i j = grind arith

ranges_by : (v : ℕ → ℤ) (rs : List Span) (r : Span) (z : ℤ) (s : ℕ) → InRanges rs v → Has r z → (s ≡ length rs) ⊎ (s ≢ length rs) → Has (range_at (rs ++ r ∷ []) s) (with_value (length rs) z v s)
ranges_by v rs r z s h k (inl e) = rw (e, range_push-at rs r, with_value-at (length rs) z v) k
ranges_by v rs r z s h k (inr n) = rw (range_push-other rs r s n, with_value-other (length rs) s z v n) (h s)

pub ranges-push : (v : ℕ → ℤ) (rs : List Span) (r : Span) (z : ℤ) → InRanges rs v → Has r z → InRanges (rs ++ r ∷ []) (with_value (length rs) z v)
ranges-push v rs r z h k = λ s. ranges_by v rs r z s h k (same_or_not s (length rs))

-- ---- a fact given to a symbol that had none
pub set-at : (fs : List (Option Fact)) (s : ℕ) (f : Fact) → s < length fs → fact_at (slice_set fs s (Some f)) s ≡ Some f
set-at [] s f l = absurd (omega (arith, l))
set-at (x ∷ fs) zero f l = refl
set-at (x ∷ fs) (suc s) f l = set-at fs s f (omega (arith, l))

pub set-other : (fs : List (Option Fact)) (s t : ℕ) (f : Fact) → t ≢ s → fact_at (slice_set fs s (Some f)) t ≡ fact_at fs t
set-other [] s t f n = refl
set-other (x ∷ fs) zero zero f n = absurd (n refl)
set-other (x ∷ fs) zero (suc t) f n = refl
set-other (x ∷ fs) (suc s) zero f n = refl
set-other (x ∷ fs) (suc s) (suc t) f n = set-other fs s t f (λ e. n (ap suc e))
