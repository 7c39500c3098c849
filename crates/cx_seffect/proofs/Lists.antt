-- Lengths of mapped lists, and the end of a list that is judged.
use Rattle.std.proofs.Common.{◌≡◌, suc, ◌-◌, ◌≤◌, List, [], ◌∷◌, ◌++◌, map, length, take, drop, get_or, refl, ap, sym, ◌∙◌, append-nil, arith}
use Rattle.std.specs.Prelude.{Ok}
use Rattle.std.proofs.lemmas.List.{map-append}
use Rattle.std.proofs.Math.Seq.{take-length}
use Rattle.cx_snode.specs.Judging.{Judged, judged_all}
use Rattle.cx_snode.proofs.Judged.{judged_as, behind, one_more}

pub count_once : {A B : Type 0} (f : A → B) (xs : List A) → length (map f xs) ≡ length xs
count_once f [] = refl
count_once f (x ∷ xs) = ap (λ n. suc n) (count_once f xs)

pub count_twice : {A B C : Type 0} (f : B → C) (g : A → B) (xs : List A) → length (map f (map g xs)) ≡ length xs
count_twice f g [] = refl
count_twice f g (x ∷ xs) = ap (λ n. suc n) (count_twice f g xs)

pub all_done : {A : Type 0} (xs : List A) → judged_as (xs ++ []) ≡ judged_as xs
all_done xs = ap judged_as (append-nil xs)

-- a list begins with its first item
first_of : {A : Type 0} (xs : List A) (x : A) → 1 ≤ length xs → x ≡ get_or xs 0 x → x ∷ take (length xs - 1) (drop 1 xs) ≡ xs
first_of [] x p q = absurd (omega (arith, p))
first_of (y ∷ ys) x p q =
    let n : length (y ∷ ys) - 1 ≡ length ys = omega arith in
    ap (λ z. z ∷ take (length (y ∷ ys) - 1) ys) q ∙ ap (λ k. y ∷ take k ys) n ∙ ap (λ zs. y ∷ zs) (take-length ys)

-- one more item of a list is judged
pub turn : {A B : Type 0} (v : A → B) (f : B → Judged B) (done now xs all : List A) (x a : A)
    → 1 ≤ length xs → x ≡ get_or xs 0 x → f (v x) ≡ judged_as (v a) → now ≡ done ++ a ∷ []
    → behind (map v done) (judged_all f (map v xs)) ≡ judged_all f (map v all)
    → behind (map v now) (judged_all f (map v (take (length xs - 1) (drop 1 xs)))) ≡ judged_all f (map v all)
turn v f done now xs all x a p q h e k =
    ap (λ ys. behind ys (judged_all f (map v (take (length xs - 1) (drop 1 xs))))) (ap (map v) e ∙ map-append v done (a ∷ []))
    ∙ sym (one_more f (map v done) (v x) (map v (take (length xs - 1) (drop 1 xs))) (v a) h)
    ∙ ap (λ ys. behind (map v done) (judged_all f (map v ys))) (first_of xs x p q)
    ∙ k
