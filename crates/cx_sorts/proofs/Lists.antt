-- Options, lists and their places.
use Rattle.std.proofs.Common.{◌≡◌, ℕ, zero, suc, ◌<◌, List, [], ◌∷◌, length, set, Bool, true, Option, Some, None, Result, Ok, option_map, option_and_then, ok_or, slice_get, refl, sym, ap, ◌∙◌, subst, arith}
use Rattle.std.specs.List.{AllZip, find, position, position_or_len}
use Rattle.std.proofs.lemmas.Bool.Decides.{nat_tests}
use Rattle.std.proofs.lemmas.List.Folds.{find_at}
use Rattle.std.proofs.lemmas.List.Sums.{passes_at_first}
use Rattle.std.proofs.lemmas.Option.{slice_get_within, get_or_from_slice_get}
use Rattle.cx_sorts.specs.Chain.{◌>>=◌}

module _ {A B : Type 0} where
  pub and_then_some : (f : A → Option B) (o : Option A) (y : B) → option_and_then f o ≡ Some y → (x : A) × (o ≡ Some x) × (f x ≡ Some y)
  and_then_some f None y e = cc
  and_then_some f (Some x) y e = (x, refl, e)

  pub map_some : (f : A → B) (o : Option A) (y : B) → option_map f o ≡ Some y → (x : A) × (o ≡ Some x) × (f x ≡ y)
  map_some f None y e = cc
  map_some f (Some x) y e = (x, refl, cc)

  pub ok_or_then : {E : Type 0} (o : Option A) (e : E) (f : A → Result B E) (y : B) → (ok_or o e >>= f) ≡ Ok y → (x : A) × (o ≡ Some x) × (f x ≡ Ok y)
  ok_or_then None e f y h = cc
  ok_or_then (Some x) e f y h = (x, refl, h)

module _ {A : Type 0} where
  pub at_place : (xs : List A) (i : ℕ) → i < length xs → (x : A) × (slice_get xs i ≡ Some x)
  at_place [] i h = absurd (omega arith)
  at_place (x ∷ xs) zero h = (x, refl)
  at_place (x ∷ xs) (suc i) h = at_place xs i (omega arith)

  pub found : (p : A → Bool) (xs : List A) (x : A) → find p xs ≡ Some x → (i : ℕ) × (slice_get xs i ≡ Some x) × (p x ≡ true) × (position p xs ≡ Some i)
  found p xs x e =
      let there : slice_get xs (position_or_len p xs) ≡ Some x = sym (find_at p xs) ∙ e in
      let within : position_or_len p xs < length xs = slice_get_within xs (position_or_len p xs) x there in
      let passes : p x ≡ true =
      subst (λ (y : A). p y ≡ true) (get_or_from_slice_get xs (position_or_len p xs) x x there) (passes_at_first p xs x within) in
      (position_or_len p xs, there, passes, grind (arith, nat_tests))

module _ {A B : Type 0} (R : A → B → Type 0) where
  pub all_zip_at : (xs : List A) (ys : List B) (i : ℕ) (x : A) → AllZip R xs ys → slice_get xs i ≡ Some x → (y : B) × (slice_get ys i ≡ Some y) × R x y
  all_zip_at [] ys i x h e = cc
  all_zip_at (a ∷ rest) [] i x h e = absurd h
  all_zip_at (a ∷ rest) (b ∷ bs) zero x (h, hs) e = (b, refl, subst (λ (z : A). R z b) (cc e) h)
  all_zip_at (a ∷ rest) (b ∷ bs) (suc i) x (h, hs) e = all_zip_at rest bs i x hs e

  pub all_zip_both : (xs : List A) (ys : List B) (i : ℕ) (x : A) (y : B) → AllZip R xs ys → slice_get xs i ≡ Some x → slice_get ys i ≡ Some y → R x y
  all_zip_both xs ys i x y h e k =
      let (z, at, holds) = all_zip_at xs ys i x h e in
      subst (λ (w : B). R x w) (cc (at, k)) holds

  pub all_zip_set : (xs : List A) (ys : List B) (i : ℕ) (x : A) (y : B) → AllZip R xs ys → R x y → AllZip R (set xs i x) (set ys i y)
  all_zip_set [] [] i x y h r = tt
  all_zip_set [] (b ∷ bs) i x y h r = absurd h
  all_zip_set (a ∷ rest) [] i x y h r = absurd h
  all_zip_set (a ∷ rest) (b ∷ bs) zero x y (h, hs) r = (r, hs)
  all_zip_set (a ∷ rest) (b ∷ bs) (suc i) x y (h, hs) r = (h, all_zip_set rest bs i x y hs r)

  pub all_zip_length : (xs : List A) (ys : List B) → AllZip R xs ys → length xs ≡ length ys
  all_zip_length [] [] h = refl
  all_zip_length [] (b ∷ bs) h = absurd h
  all_zip_length (a ∷ rest) [] h = absurd h
  all_zip_length (a ∷ rest) (b ∷ bs) (h, hs) = ap suc (all_zip_length rest bs hs)
