-- Texts that are numbered one after another.
use Rattle.std.proofs.Common.{◌≡◌, ◌≢◌, ℕ, suc, ◌+◌, ◌++◌, ◌<◌, ◌≤◌, List, [], ◌∷◌, length, get_or, take, sym, subst, arith, refl, ◌∙◌, Bool, true, false}
use Rattle.std.proofs.lemmas.List.{take_more, get_or-take, length-take-le}
use Rattle.std.proofs.lemmas.List.Sums.{fails_before_first, passes_at_first}
use Rattle.std.proofs.lemmas.Slice.Eq.{bytes_eq-Decides}
use Rattle.std.specs.List.{list_any, position_or_len}
use Rattle.std.specs.Prelude.{AllPairs}
use Rattle.std.specs.Str.{bytes_eq}
use Rattle.cx_base.specs.Names.{numbered}

none_passes : {X : Type 0} (p : X → Bool) (xs : List X) → ((k : ℕ) (d : X) → k < length xs → p (get_or xs k d) ≡ false) → list_any p xs ≡ false
none_passes p [] h = refl
none_passes p (x ∷ xs) h = rw (h 0 x (omega arith), none_passes p xs (λ k d l. h (suc k) d (omega arith))) refl

module _ (texts : List (List ℕ)) (i n : ℕ) (text : List ℕ) (within : i < length texts) (here : text ≡ get_or texts i text) (number : n ≡ position_or_len (bytes_eq text) (take i texts)) where
  count : length (take i texts) ≡ i
  count = length-take-le i texts (omega arith)

  -- a number below i is that of an equal text before it
  pub equal_before : n < i → AllPairs (λ x y. x ≢ y) texts → ⊥
  equal_before low a =
      let first = passes_at_first (bytes_eq text) (take i texts) text (omega (arith, count, number)) in
      let p : bytes_eq text (get_or (take i texts) n text) ≡ true = subst (λ k. bytes_eq text (get_or (take i texts) k text) ≡ true) (sym number) first in
      let e : text ≡ get_or (take i texts) n text = (bytes_eq-Decides text (get_or (take i texts) n text)).0 p in
      a n i text low within (sym (get_or-take i texts n text low) ∙ sym e ∙ here)

  -- with no number below i the text is a new one
  pub added : i ≤ n → numbered (take i texts) text ≡ take (i + 1) texts
  added h =
      let before : (k : ℕ) (d : List ℕ) → k < length (take i texts) → bytes_eq text (get_or (take i texts) k d) ≡ false =
      λ k d l. fails_before_first (bytes_eq text) (take i texts) k d (omega (arith, count, number)) in
      let none : list_any (bytes_eq text) (take i texts) ≡ false = none_passes (bytes_eq text) (take i texts) before in
      let next : take (i + 1) texts ≡ take i texts ++ text ∷ [] = subst (λ t. take (i + 1) texts ≡ take i texts ++ t ∷ []) (sym here) (take_more texts i text within) in
      rw none (sym next)
