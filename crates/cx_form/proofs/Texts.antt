-- Texts that are the same or not.
use Rattle.std.proofs.Common.{◌≡◌, ℕ, true, false, List, sym, ap, ◌∙◌, inl, inr}
use Rattle.std.specs.Str.{bytes_eq}
use Rattle.std.proofs.lemmas.Bool.{cases_Bool}
use Rattle.std.proofs.lemmas.Slice.Eq.{bytes_eq-Decides}
use Rattle.cx_form.specs.Grammar.{is_name}

pub same : (a b : List ℕ) → a ≡ b → bytes_eq a b ≡ true
same a b e = (bytes_eq-Decides a b).1 e

pub is_same : (a b : List ℕ) → bytes_eq a b ≡ true → a ≡ b
is_same a b e = (bytes_eq-Decides a b).0 e

pub other : (a b c : List ℕ) → a ≡ b → bytes_eq b c ≡ false → bytes_eq a c ≡ false
other a b c e h = ap (λ (x : List ℕ). bytes_eq x c) e ∙ h

pub no_name : (a b : List ℕ) → is_name a ≡ true → is_name b ≡ false → bytes_eq a b ≡ false
no_name a b h k = elim (cases_Bool (bytes_eq a b)) [
  | inl t ↦ let e : is_name a ≡ is_name b = ap is_name (is_same a b t) in absurd (true_false (sym h ∙ e ∙ k))
  | inr f ↦ f
]
  where
    true_false : true ≡ false → ⊥
    true_false e = cc
