-- Some element of a list, and all of them.
use Rattle.std.specs.Prelude.{◌≡◌, ℕ, List, [], ◌∷◌, map, filter, Any, Some, slice_get, position, Bool, true, false}
use Rattle.std.specs.List.{list_any}
use Rattle.std.proofs.Common.{refl, sym, ◌∙◌, cond, subst}
use Rattle.std.proofs.lemmas.List.Quantifiers.{position-Some}
use Rattle.std.proofs.lemmas.Option.{get_or_from_slice_get}
use Rattle.cx_term.proofs.Tests.{or_cases}
use Rattle.cx_fact.proofs.Regions.{any-shift, first_any, any_cases, any_none}

here_by : {X : Type 0} (P : X → Type 0) (q : X → Bool) (x : X) (xs : List X) (b : Bool) → q x ≡ b → q x ≡ true → P x → Any P (cond b (x ∷ filter q xs) (filter q xs))
here_by P q x xs true e h p = first_any P x (filter q xs) p
here_by P q x xs false e h p = absurd (let w : false ≡ true = sym e ∙ h in cc)

there_by : {X : Type 0} (P : X → Type 0) (q : X → Bool) (x : X) (xs : List X) (b : Bool) → Any P (filter q xs) → Any P (cond b (x ∷ filter q xs) (filter q xs))
there_by P q x xs true h = any-shift P x (filter q xs) h
there_by P q x xs false h = h

-- one that passes is kept
pub filter_any : {X : Type 0} (P : X → Type 0) (q : X → Bool) (xs : List X) → Any (λ y. (q y ≡ true) × P y) xs → Any P (filter q xs)
filter_any P q [] h = any_none (λ y. (q y ≡ true) × P y) (Any P []) h
filter_any P q (x ∷ xs) h =
    any_cases (λ y. (q y ≡ true) × P y) (Any P (filter q (x ∷ xs))) x xs h (λ p. here_by P q x xs (q x) refl p.0 p.1) (λ a. there_by P q x xs (q x) (filter_any P q xs a))

pub map_any : {X Y : Type 0} (P : Y → Type 0) (f : X → Y) (xs : List X) → Any (λ x. P (f x)) xs → Any P (map f xs)
map_any P f [] h = any_none (λ x. P (f x)) (Any P []) h
map_any P f (x ∷ xs) h =
    any_cases (λ x. P (f x)) (Any P (map f (x ∷ xs))) x xs h (λ p. first_any P (f x) (map f xs) p) (λ a. any-shift P (f x) (map f xs) (map_any P f xs a))

pub any_to : {X : Type 0} (P Q : X → Type 0) (xs : List X) → ((x : X) → P x → Q x) → Any P xs → Any Q xs
any_to P Q xs f h = (h.0, h.1, h.2, h.3, f h.1 h.4)

-- one that passes the test is there
pub any_true : {X : Type 0} (p : X → Bool) (xs : List X) → list_any p xs ≡ true → Any (λ x. p x ≡ true) xs
any_true p [] e = absurd (let w : false ≡ true = e in cc)
any_true p (x ∷ xs) e =
    or_cases (p x) (list_any p xs) (Any (λ x. p x ≡ true) (x ∷ xs)) (λ h. first_any (λ x. p x ≡ true) x xs h) (λ h. any-shift (λ x. p x ≡ true) x xs (any_true p xs h)) e

-- the item at the position passes
pub found : {X : Type 0} (p : X → Bool) (xs : List X) (i : ℕ) (d : X) → position p xs ≡ Some i → slice_get xs i ≡ Some d → p d ≡ true
found p xs i d e g = subst (λ x. p x ≡ true) (get_or_from_slice_get xs i d d g) (position-Some p xs i d e).1
