-- Tests taken apart, and put together.
use Rattle.std.specs.Prelude.{◌≡◌, ℕ, ◌≤◌, Bool, true, false, ◌||◌, ◌&&◌, List, [], ◌∷◌, nat_le}
use Rattle.std.specs.List.{list_any, AllByRecursion}
use Rattle.std.proofs.Common.{arith, refl}
use Rattle.std.proofs.lemmas.Bool.Decides.{nat_tests}

pub and_left : (a b : Bool) → a && b ≡ true → a ≡ true
and_left true b e = refl
and_left false b e = e

pub and_right : (a b : Bool) → a && b ≡ true → b ≡ true
and_right true b e = e
and_right false b e = absurd (let z : false ≡ true = e in cc)

pub and_both : (a b : Bool) → a ≡ true → b ≡ true → a && b ≡ true
and_both true b e f = f
and_both false b e f = absurd (let z : false ≡ true = e in cc)

pub not_true : (b : Bool) → (b ≡ true → ⊥) → b ≡ false
not_true true h = absurd (h refl)
not_true false h = refl

pub or_cases : (a b : Bool) (P : Type 0) → (a ≡ true → P) → (b ≡ true → P) → a || b ≡ true → P
or_cases true b P f g e = f refl
or_cases false b P f g e = g e

pub or_false : (a b : Bool) → a || b ≡ false → a ≡ false
or_false true b e = e
or_false false b e = refl

pub le_true : (a b : ℕ) → a ≤ b → nat_le a b ≡ true
le_true a b h = grind (arith, nat_tests)

pub true_le : (a b : ℕ) → nat_le a b ≡ true → a ≤ b
true_le a b h = grind (arith, nat_tests)

-- some element of the list passes, and of it the facts of the list are known
pub any_cases : {X : Type 0} (Q : X → Type 0) (P : Type 0) (p : X → Bool) (xs : List X) → ((x : X) → Q x → p x ≡ true → P) → AllByRecursion Q xs → list_any p xs ≡ true → P
any_cases Q P p [] f h e = absurd (let z : false ≡ true = e in cc)
any_cases Q P p (x ∷ xs) f h e = or_cases (p x) (list_any p xs) P (f x h.0) (any_cases Q P p xs f h.1) e

-- some element of the list passes
pub any_of : {X : Type 0} (P : Type 0) (p : X → Bool) (xs : List X) → ((x : X) → p x ≡ true → P) → list_any p xs ≡ true → P
any_of P p [] f e = absurd (let z : false ≡ true = e in cc)
any_of P p (x ∷ xs) f e = or_cases (p x) (list_any p xs) P (f x) (any_of P p xs f) e
