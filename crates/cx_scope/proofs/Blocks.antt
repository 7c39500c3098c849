-- Blocks as maps, and the blocks around one another.
use Rattle.std.proofs.Common.{◌≡◌, ℕ, zero, suc, ◌+◌, ◌<◌, List, [], ◌∷◌, ◌++◌, map, length, take, get_or, reverse, refl, ap, sym, ◌∙◌, None, Some, cond, arith}
use Rattle.std.specs.Prelude.{nat_eq, remove, slice_get}
use Rattle.std.proofs.lemmas.List.{map-append, reverse-append, take_more}
use Rattle.std.specs.Map.{lookup}
use Rattle.indexmap.specs.IndexMap.{insert_entry}
use Rattle.cx_scope.specs.Locals.{Block, with_name, number_in, inner_first, found_in}

pub number_found : (n : ℕ) (b : Block) → lookup (nat_eq n) b ≡ number_in b n
number_found n [] = refl
number_found n (e ∷ es) = ap (λ o. cond (nat_eq n e.0) (Some e.1) o) (number_found n es)

pub name_inserted : (n x : ℕ) (b : Block) → insert_entry nat_eq b n x ≡ with_name n x b
name_inserted n x [] = refl
name_inserted n x (e ∷ es) = ap (λ r. cond (nat_eq n e.0) ((e.0, x) ∷ es) (e ∷ r)) (name_inserted n x es)

-- ---- the last of a list

pub put_back : {A : Type 0} (xs : List A) (n : ℕ) (x : A) → length xs ≡ suc n → slice_get xs n ≡ Some x → remove xs n ++ x ∷ [] ≡ xs
put_back [] n x e h = absurd cc
put_back (y ∷ []) zero x e h = let same : x ≡ y = cc in ap (λ z. z ∷ []) same
put_back (y ∷ []) (suc n) x e h = absurd cc
put_back (y ∷ z ∷ zs) zero x e h = absurd (omega (arith, e))
put_back (y ∷ z ∷ zs) (suc n) x e h = ap (λ ys. y ∷ ys) (put_back (z ∷ zs) n x (omega (arith, e)) h)

-- the view of blocks, the innermost first, once the innermost is taken out
pub innermost_taken : {A B : Type 0} (f : A → B) (xs : List A) (n : ℕ) (x : A) → length xs ≡ suc n → slice_get xs n ≡ Some x → reverse (map f xs) ≡ f x ∷ reverse (map f (remove xs n))
innermost_taken f xs n x e h =
    ap (λ ys. reverse (map f ys)) (sym (put_back xs n x e h))
    ∙ ap reverse (map-append f (remove xs n) (x ∷ []))
    ∙ reverse-append (map f (remove xs n)) (f x ∷ [])

pub one_more_block : {A B : Type 0} (f : A → B) (xs : List A) (x : A) → reverse (map f (xs ++ x ∷ [])) ≡ f x ∷ reverse (map f xs)
one_more_block f xs x = ap reverse (map-append f xs (x ∷ [])) ∙ reverse-append (map f xs) (f x ∷ [])

pub no_block : {A B : Type 0} (f : A → B) (xs : List A) → length xs ≡ 0 → reverse (map f xs) ≡ []
no_block f [] h = refl
no_block f (x ∷ xs) h = absurd cc

-- the next block is searched before those that were searched
pub found_more : {A : Type 0} (f : A → Block) (xs : List A) (i : ℕ) (x : A) (n : ℕ) → i < length xs → x ≡ get_or xs i x
    → found_in (reverse (map f (take (i + 1) xs))) n ≡ inner_first (number_in (f x) n) (found_in (reverse (map f (take i xs))) n)
found_more f xs i x n h e =
    ap (λ ys. found_in (reverse (map f ys)) n) (take_more xs i x h ∙ ap (λ y. take i xs ++ y ∷ []) (sym e))
    ∙ ap (λ bs. found_in bs n) (one_more_block f (take i xs) x)
