-- Forms by sums that are the same everywhere, and parts of two forms.
use Rattle.std.proofs.Common.{◌≡◌, ℕ, List, [], ◌∷◌, ◌++◌, length, leb, Bool, true, false, refl, sym, ap, ◌∙◌, Option, None}
use Rattle.std.specs.Prelude.{ℤ, ◌&&◌, ◌^◌}
use mathlib.Core.Path.{fun_ext}
use Rattle.cx_tsyn.specs.Lins.{LinTree}
use Rattle.cx_tnumber.specs.Numbers.{parts_of, sum_of}
use Rattle.cx_tforms.specs.Terms.{is_small, factor_is_small, factors_are_small, with_left, left_in, is_term, less, one_less}

pub small_append : (sum : Option (List ℕ) → ℤ) (a b : List (Option (List ℕ) × ℤ)) → factors_are_small sum (a ++ b) ≡ (factors_are_small sum a && factors_are_small sum b)
small_append sum [] b = refl
small_append sum (p ∷ a) b = ap (λ r. factor_is_small sum p.0 && r) (small_append sum a b) ∙ and_again (factor_is_small sum p.0)
  where
    and_again : (x : Bool) → (x && (factors_are_small sum a && factors_are_small sum b)) ≡ ((x && factors_are_small sum a) && factors_are_small sum b)
    and_again true = refl
    and_again false = refl

pub left_append : (sum : Option (List ℕ) → ℤ) (names : List (List ℕ)) (a b : List (Option (List ℕ) × ℤ)) → left_in sum names (a ++ b) ≡ left_in sum (left_in sum names a) b
left_append sum names [] b = refl
left_append sum names (p ∷ a) b = left_append sum (with_left sum names p.0) a b

all_three : (x y z : Bool) → x ≡ true → y ≡ true → z ≡ (x && (y && z))
all_three true true z e f = refl
all_three true false z e f = absurd (cc)
all_three false y z e f = absurd (cc)

-- a form with small numbers is a term where few symbols are left
pub few_left : (sum : Option (List ℕ) → ℤ) (ps : List (Option (List ℕ) × ℤ)) (n : ℕ) → is_small (2 ^ 96) (sum None) ≡ true → factors_are_small sum ps ≡ true → n ≡ length (left_in sum [] ps) → leb n 4 ≡ is_term sum ps
few_left sum ps n e f h = ap (λ m. leb m 4) h ∙ all_three (is_small (2 ^ 96) (sum None)) (factors_are_small sum ps) (leb (length (left_in sum [] ps)) 4) e f

both : (x y : Bool) → x ≡ true → y ≡ true → (x && y) ≡ true
both true true e f = refl
both true false e f = absurd (cc)
both false y e f = absurd (cc)

-- the same of the parts of two forms
pub few_left_of_both : (sum : Option (List ℕ) → ℤ) (a b : List (Option (List ℕ) × ℤ)) (n : ℕ) → is_small (2 ^ 96) (sum None) ≡ true → factors_are_small sum a ≡ true → factors_are_small sum b ≡ true
    → n ≡ length (left_in sum (left_in sum [] a) b) → leb n 4 ≡ is_term sum (a ++ b)
few_left_of_both sum a b n e f g h =
    few_left sum (a ++ b) n e (small_append sum a b ∙ both (factors_are_small sum a) (factors_are_small sum b) f g) (h ∙ ap length (sym (left_append sum [] a b)))

-- ---- both conditions on a difference

pub first_fails : (x y b : Bool) → x ≡ b → b ≡ false → false ≡ (x && y)
first_fails true y true e f = absurd (cc)
first_fails true y false e f = absurd (cc)
first_fails false y b e f = refl

pub second_decides : (x y b z : Bool) → x ≡ b → b ≡ true → z ≡ y → z ≡ (x && y)
second_decides true y b z e f h = h
second_decides false y true z e f h = absurd (cc)
second_decides false y false z e f h = absurd (cc)

pub term_of : (sum : Option (List ℕ) → ℤ) (l : LinTree) → ((u : Option (List ℕ)) → sum u ≡ sum_of l u) → is_term sum (parts_of l) ≡ is_term (sum_of l) (parts_of l)
term_of sum l h = ap (λ f. is_term f (parts_of l)) (fun_ext h)

pub difference_of : (x y : Option (List ℕ) → ℤ) (a b : LinTree) → ((u : Option (List ℕ)) → x u ≡ sum_of a u) → ((u : Option (List ℕ)) → y u ≡ sum_of b u)
    → is_term (less x y) (parts_of a ++ parts_of b) ≡ is_term (less (sum_of a) (sum_of b)) (parts_of a ++ parts_of b)
difference_of x y a b h k = ap (λ f. is_term (less f y) (parts_of a ++ parts_of b)) (fun_ext h) ∙ ap (λ f. is_term (less (sum_of a) f) (parts_of a ++ parts_of b)) (fun_ext k)

pub one_less_of : (x y : Option (List ℕ) → ℤ) (a b : LinTree) → ((u : Option (List ℕ)) → x u ≡ sum_of a u) → ((u : Option (List ℕ)) → y u ≡ sum_of b u)
    → is_term (one_less (less x y)) (parts_of a ++ parts_of b) ≡ is_term (one_less (less (sum_of a) (sum_of b))) (parts_of a ++ parts_of b)
one_less_of x y a b h k = ap (λ f. is_term (one_less (less f y)) (parts_of a ++ parts_of b)) (fun_ext h) ∙ ap (λ f. is_term (one_less (less (sum_of a) f)) (parts_of a ++ parts_of b)) (fun_ext k)
