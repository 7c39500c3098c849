-- Regions of a memory by their places: two places have different bases.
use Rattle.std.specs.Prelude.{◌≡◌, ◌≢◌, ℕ, zero, suc, ◌<◌, List, [], ◌∷◌, ◌++◌, map, take, All, AllPairs, Some, slice_get, slice_index_or, true, false, nat_lt}
use Rattle.std.proofs.Common.{arith, refl, sym, ap, ◌∙◌, subst}
use Rattle.std.proofs.lemmas.Bool.Decides.{nat_tests}
use Rattle.std.proofs.lemmas.Option.{slice_get_within, get_or_from_slice_get}
use Rattle.cx_base.specs.Memory.{past_of, meets, Valid}
use Rattle.cx_base.specs.declared.memory.Region.{Region}
use Rattle.cx_term.proofs.Tests.{and_both}

-- ---- items of lists by their places
pub get_take : {X : Type 0} (n : ℕ) (xs : List X) (k : ℕ) (x : X) → slice_get (take n xs) k ≡ Some x → slice_get xs k ≡ Some x
get_take zero xs k x e = absurd (cc)
get_take (suc n) [] k x e = e
get_take (suc n) (y ∷ xs) zero x e = e
get_take (suc n) (y ∷ xs) (suc k) x e = get_take n xs k x e

pub get_map : {X Y : Type 0} (f : X → Y) (xs : List X) (k : ℕ) (x : X) → slice_get xs k ≡ Some x → slice_get (map f xs) k ≡ Some (f x)
get_map f [] k x e = absurd (cc)
get_map f (y ∷ ys) zero x e = let g : y ≡ x = cc in ap (λ z. Some (f z)) g
get_map f (y ∷ ys) (suc k) x e = get_map f ys k x e

pub get_append : {X : Type 0} (xs ys : List X) (k : ℕ) (x : X) → slice_get xs k ≡ Some x → slice_get (xs ++ ys) k ≡ Some x
get_append [] ys k x e = absurd (cc)
get_append (y ∷ xs) ys zero x e = e
get_append (y ∷ xs) ys (suc k) x e = get_append xs ys k x e

-- what a mapped list has at a place is made of what the list has there
pub record Made {X Y : Type 0} (f : X → Y) (xs : List X) (k : ℕ) (y : Y) : Type 0 where
  pub x : X
  pub there : slice_get xs k ≡ Some x
  pub same : f x ≡ y

pub made : {X Y : Type 0} (f : X → Y) (xs : List X) (k : ℕ) (y : Y) → slice_get (map f xs) k ≡ Some y → Made f xs k y
made f [] k y e = absurd (cc)
made f (x ∷ xs) zero y e = record { x = x; there = refl; same = cc }
made f (x ∷ xs) (suc k) y e = let h = made f xs k y e in record { x = h.x; there = h.there; same = h.same }

-- ---- regions
pub all_get : {X : Type 0} (P : X → Type 0) (xs : List X) (k : ℕ) (x : X) → All P xs → slice_get xs k ≡ Some x → P x
all_get P xs k x h e = subst P (get_or_from_slice_get xs k x x e) (h k x (slice_get_within xs k x e))

pub region_all : (P : Region → Type 0) (rs : List Region) (k : ℕ) (r : Region) → All P rs → slice_get rs k ≡ Some r → P r
region_all P rs k r h e = all_get P rs k r h e

pairs_get : {X : Type 0} (P : X → X → Type 0) (xs : List X) (j k : ℕ) (x y : X) → AllPairs P xs → slice_get xs j ≡ Some x → slice_get xs k ≡ Some y → j < k → P x y
pairs_get P xs j k x y h e g l =
    let a : P (slice_index_or xs j x) (slice_index_or xs k x) = h j k x l (slice_get_within xs k y g) in
    let b : P x (slice_index_or xs k x) = subst (λ z. P z (slice_index_or xs k x)) (get_or_from_slice_get xs j x x e) a in
    subst (P x) (get_or_from_slice_get xs k y x g) b

past_after : (r : Region) → r.base < past_of r
past_after r = omega arith

same_meets : (r s : Region) → r.base ≡ s.base → meets s r ≡ true
same_meets r s e =
    let a : nat_lt s.base (past_of r) ≡ true = less_true s.base (past_of r) (omega (arith, past_after r, e)) in
    let b : nat_lt r.base (past_of s) ≡ true = less_true r.base (past_of s) (omega (arith, past_after s, e)) in
    and_both (nat_lt s.base (past_of r)) (nat_lt r.base (past_of s)) a b
  where
    less_true : (a b : ℕ) → a < b → nat_lt a b ≡ true
    less_true a b h = grind (arith, nat_tests)

ordered_differ : (rs : List Region) (j k : ℕ) (r s : Region) → Valid rs → slice_get rs j ≡ Some r → slice_get rs k ≡ Some s → j < k → r.base ≢ s.base
ordered_differ rs j k r s V e g l q =
    let a = pairs_get (λ r s. meets s r ≡ false) rs j k r s V.apart e g l in
    let w : true ≡ false = sym (same_meets r s q) ∙ a in
    cc

less_or_more : (j k : ℕ) (R : Type 0) → j ≢ k → (j < k → R) → (k < j → R) → R
less_or_more zero zero R n f g = absurd (n refl)
less_or_more zero (suc k) R n f g = f (omega arith)
less_or_more (suc j) zero R n f g = g (omega arith)
less_or_more (suc j) (suc k) R n f g = less_or_more j k R (λ e. n (ap suc e)) (λ l. f (omega (arith, l))) (λ l. g (omega (arith, l)))

-- regions at different places begin at different addresses
pub bases_differ : (rs : List Region) (j k : ℕ) (r s : Region) → Valid rs → slice_get rs j ≡ Some r → slice_get rs k ≡ Some s → j ≢ k → r.base ≢ s.base
bases_differ rs j k r s V e g n q = less_or_more j k ⊥ n (λ l. ordered_differ rs j k r s V e g l q) (λ l. ordered_differ rs k j s r V g e l (sym q))
