-- Spans with the same ends are the same.
use Rattle.std.proofs.Common.{◌≡◌, ℕ, ◌≤◌, max, ap, subst, arith}
use Rattle.std.proofs.Math.Bridge.{le_prop}
use Rattle.std.proofs.Math.Nat.{le-max_left}
use Rattle.cx_base.specs.declared.span.Span.{Span}
use Rattle.cx_lex.specs.Lexed.{span_from}

abbrev pub span_of : (first past : ℕ) → first ≤ past → Span
span_of first past h = record { first = first; past = past; ordered = h }

span_same : (first p q : ℕ) (h : first ≤ p) (k : first ≤ q) → p ≡ q → span_of first p h ≡ span_of first q k
span_same first p q h k e = subst (λ (r : ℕ). (k : first ≤ r) → span_of first p h ≡ span_of first r k) e (λ k. ap (λ (x : first ≤ p). span_of first p x) (le_prop h k)) k

pub span_is : (first past : ℕ) (h : first ≤ past) → span_of first past h ≡ span_from first past
span_is first past h = let top : past ≡ max first past = omega arith in span_same first past (max first past) h (le-max_left first past) top
