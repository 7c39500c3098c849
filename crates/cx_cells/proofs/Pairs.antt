-- The pairs of a list's items, one item with all later ones at a time.
use Rattle.std.proofs.Common.{◌≡◌, ℕ, ◌+◌, ◌-◌, ◌<◌, List, length, get_or, drop, All, slice_range, sym, subst, ap, ◌∙◌, arith, length-drop}
use Rattle.std.proofs.lemmas.List.{get_or-drop, get_or_default, take_rest}
use Rattle.std.specs.Prelude.{◌↔◌}
use Rattle.cx_cells.specs.Pairs.{PairsAt}

module _ {X : Type 0} (R : X → X → Type 0) (xs : List X) (i : ℕ) (x : X) (within : i < length xs) (here : x ≡ get_or xs i x) where
  first_is : (d : X) → x ≡ get_or xs i d
  first_is d = here ∙ get_or_default xs i x d within

  -- the item at j is the one at j - (i + 1) of the later ones
  later_is : (j : ℕ) (d : X) → i < j → get_or (drop (i + 1) xs) (j - (i + 1)) d ≡ get_or xs j d
  later_is j d h =
      let e : i + 1 + (j - (i + 1)) ≡ j = omega arith in
      get_or-drop (i + 1) xs (j - (i + 1)) d ∙ ap (λ k. get_or xs k d) e

  to_pairs : All (R x) (drop (i + 1) xs) → PairsAt R xs i
  to_pairs h j d low high =
      let at : R x (get_or (drop (i + 1) xs) (j - (i + 1)) d) = h (j - (i + 1)) d (omega (arith, length-drop (i + 1) xs)) in
      rw (← first_is d) (subst (R x) (later_is j d low) at)

  from_pairs : PairsAt R xs i → All (R x) (drop (i + 1) xs)
  from_pairs h k d inside =
      let at : R (get_or xs i d) (get_or xs (i + 1 + k) d) = h (i + 1 + k) d (omega arith) (omega (arith, length-drop (i + 1) xs)) in
      rw (get_or-drop (i + 1) xs k d) (subst (λ y. R y (get_or xs (i + 1 + k) d)) (sym (first_is d)) at)

  -- the items from i + 1 on, as a slice takes them
  pub pairs_at : All (R x) (slice_range xs (i + 1) (length xs)) ↔ PairsAt R xs i
  pairs_at = rw (take_rest xs (i + 1)) (to_pairs, from_pairs)
