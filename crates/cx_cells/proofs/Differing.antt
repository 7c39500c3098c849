-- Items whose names differ, by the list of their names.
use Rattle.std.proofs.Common.{◌≢◌, ℕ, ◌<◌, List, [], ◌∷◌, length, get_or, map, sym, subst₂, arith, ◌∙◌}
use Rattle.std.proofs.lemmas.List.{get_or-map, length-map, get_or_default}
use Rattle.std.specs.Prelude.{◌↔◌, All, AllPairs, Contains}

-- some item of a list that has one
some_item : {X : Type 0} (xs : List X) (k : ℕ) → k < length xs → X
some_item [] k h = absurd (omega arith)
some_item (x ∷ xs) k h = x

module _ {X : Type 0} (f : X → ℕ) (xs : List X) where
  from_names : AllPairs (λ x y. x ≢ y) (map f xs) → AllPairs (λ x y. f x ≢ f y) xs
  from_names h i j d low high =
      let n = h i j (f d) low (omega (arith, length-map xs f)) in
      subst₂ (λ x y. x ≢ y) (get_or-map f xs i d (f d) (omega arith)) (get_or-map f xs j d (f d) high) n

  to_names : AllPairs (λ x y. f x ≢ f y) xs → AllPairs (λ x y. x ≢ y) (map f xs)
  to_names h i j n low high =
      let l : j < length xs = omega (arith, length-map xs f) in
      let d = some_item xs j l in
      subst₂ (λ x y. x ≢ y) (sym (get_or-map f xs i d n (omega arith))) (sym (get_or-map f xs j d n l)) (h i j d low l)

  pub differing : AllPairs (λ x y. x ≢ y) (map f xs) ↔ AllPairs (λ x y. f x ≢ f y) xs
  differing = (from_names, to_names)

module _ {X Y : Type 0} (f : X → ℕ) (g : Y → ℕ) (xs : List X) (ys : List Y) where
  from_apart : All (λ a. All (λ b. a ≢ b) (map g ys)) (map f xs) → All (λ x. All (λ y. f x ≢ g y) ys) xs
  from_apart h k d l m e below =
      let n = h k (f d) (omega (arith, length-map xs f)) m (g e) (omega (arith, length-map ys g)) in
      subst₂ (λ a b. a ≢ b) (get_or-map f xs k d (f d) l) (get_or-map g ys m e (g e) below) n

  to_apart : All (λ x. All (λ y. f x ≢ g y) ys) xs → All (λ a. All (λ b. a ≢ b) (map g ys)) (map f xs)
  to_apart h k n l m p below =
      let inside : k < length xs = omega (arith, length-map xs f) in
      let there : m < length ys = omega (arith, length-map ys g) in
      let d = some_item xs k inside in
      let e = some_item ys m there in
      subst₂ (λ a b. a ≢ b) (sym (get_or-map f xs k d n inside)) (sym (get_or-map g ys m e p there)) (h k d inside m e there)

  pub apart : All (λ a. All (λ b. a ≢ b) (map g ys)) (map f xs) ↔ All (λ x. All (λ y. f x ≢ g y) ys) xs
  apart = (from_apart, to_apart)

-- a number differs from each of the others where it is not among them
differs : (others : List ℕ) (x : ℕ) → (Contains others x → ⊥) → All (λ y. x ≢ y) others
differs others x out k d h e = out (k, h, get_or_default others k x d h ∙ sym e)

absent : (others : List ℕ) (x : ℕ) → All (λ y. x ≢ y) others → Contains others x → ⊥
absent others x a c = a c.0 x c.1 (sym c.2)

-- numbers are outside a set of the others exactly where each differs from each of them
pub none_of : (In : ℕ → Type 0) (others numbers : List ℕ) → ((q : ℕ) → In q ↔ Contains others q) → All (λ x. In x → ⊥) numbers ↔ All (λ x. All (λ y. x ≢ y) others) numbers
none_of In others numbers members = (
  (λ h k d l. differs others (get_or numbers k d) (λ c. h k d l ((members (get_or numbers k d)).1 c))),
  (λ h k d l i. absent others (get_or numbers k d) (h k d l) ((members (get_or numbers k d)).0 i)),
)
