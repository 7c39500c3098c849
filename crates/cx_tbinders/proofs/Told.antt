-- What is told of the sums of a form, and of what is left of a list.
use Rattle.std.proofs.Common.{◌≡◌, ℕ, zero, suc, ◌+◌, List, [], ◌∷◌, Option, drop, refl, ap, add-one}
use Rattle.std.specs.Prelude.{ℤ}
use mathlib.Core.Path.{fun_ext}
use Rattle.cx_tsyn.specs.Lins.{LinTree}
use Rattle.cx_tnumber.specs.Numbers.{sum_of}
use Rattle.cx_tbinders.specs.Left.{left_by, left_in}

pub left_is : (names : List (List ℕ)) (n : ℕ) (sum : Option (List ℕ) → ℤ) (l : LinTree) → ((u : Option (List ℕ)) → sum u ≡ sum_of l u) → left_by names n sum l ≡ left_in names n l
unfolding left_in
left_is names n sum l h = ap (λ f. left_by names n f l) (fun_ext h)

drop_next : {A : Type 0} (n : ℕ) (xs : List A) → drop 1 (drop n xs) ≡ drop (suc n) xs
drop_next zero xs = refl
drop_next (suc n) [] = refl
drop_next (suc n) (x ∷ xs) = drop_next n xs

pub drop_more : {A : Type 0} (n : ℕ) (xs : List A) → drop 1 (drop n xs) ≡ drop (n + 1) xs
drop_more n xs = rw add-one (drop_next n xs)
