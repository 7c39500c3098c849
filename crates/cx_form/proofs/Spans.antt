-- Spans with the same ends are the same.
use Rattle.std.proofs.Common.{◌≡◌, ℕ, ◌≤◌, true, nat_le, max, Some, ap, subst, arith}
use Rattle.std.proofs.Math.Bridge.{le_prop}
use Rattle.std.proofs.Math.Nat.{le-max_left}
use Rattle.std.proofs.lemmas.Bool.Decides.{nat_tests}
use Rattle.cx_base.specs.declared.span.Span.{Span}
use Rattle.cx_form.specs.Reading.{span_between}

abbrev pub span_of : (first past : ℕ) → first ≤ past → Span
span_of first past h = record { first = first; past = past; ordered = h }

pub span_same : (first p q : ℕ) (h : first ≤ p) (k : first ≤ q) → p ≡ q → span_of first p h ≡ span_of first q k
span_same first p q h k e = subst (λ (r : ℕ). (k : first ≤ r) → span_of first p h ≡ span_of first r k) e (λ k. ap (λ (x : first ≤ p). span_of first p x) (le_prop h k)) k

pub between_is : (first past : ℕ) (h : first ≤ past) → span_between first past ≡ Some (span_of first past h)
between_is first past h = let on : nat_le first past ≡ true = grind (arith, nat_tests) in
    let top : max first past ≡ past = omega arith in
    rw on (ap Some (span_same first (max first past) past (le-max_left first past) h top))
