-- The test whether two types are the same decides it.
use Rattle.std.proofs.Common.{◌≡◌, ℕ, refl, ap, subst, Bool, true, false, arith, ◌&&◌, ◌↔◌, IsTrue}
use Rattle.std.specs.Prelude.{nat_eq, not, if◌then◌else◌}
use Rattle.std.proofs.lemmas.Bool.Decides.{nat_tests, same_from_decides}
use Rattle.cx_ctree.proofs.Numbers.{number_same}
use Rattle.cx_ctree.specs.Types.{TypeTree, void, int, pointer, array, tag}
use Rattle.cx_cconst.specs.Constants.{same_type}

nat_self : (n : ℕ) → nat_eq n n ≡ true
nat_self n = grind (arith, nat_tests)

nat_is : (n m : ℕ) → nat_eq n m ≡ true → n ≡ m
nat_is n m e = grind (arith, nat_tests, e)

first_of_both : (a b : Bool) → a && b ≡ true → a ≡ true
first_of_both true b e = refl
first_of_both false b e = e

second_of_both : (a b : Bool) → a && b ≡ true → b ≡ true
second_of_both true b e = e
second_of_both false b e = absurd cc

sign_self : (a : Bool) → (if a then a else not a) ≡ true
sign_self true = refl
sign_self false = refl

sign_is : (a b : Bool) → (if a then b else not b) ≡ true → a ≡ b
sign_is true true e = refl
sign_is true false e = absurd cc
sign_is false true e = absurd cc
sign_is false false e = refl

same_self : (t : TypeTree) → same_type t t ≡ true
same_self void = refl
same_self (int t) = rw (nat_self t.size) (sign_self t.signed)
same_self (pointer t) = same_self t
same_self (array t n) = rw (nat_self n) (same_self t)
same_self (tag k) = nat_self k

same_is : (t w : TypeTree) → same_type t w ≡ true → t ≡ w
same_is void void e = refl
same_is (int t) (int w) e = ap int (number_same t w (nat_is t.size w.size (first_of_both (nat_eq t.size w.size) _ e)) (sign_is t.signed w.signed (second_of_both (nat_eq t.size w.size) _ e)))
same_is (pointer t) (pointer w) e = ap pointer (same_is t w e)
same_is (array t n) (array w m) e =
    let p = same_is t w (second_of_both (nat_eq n m) _ e) in let q = nat_is n m (first_of_both (nat_eq n m) _ e) in λ i. array (p i) (q i)
same_is (tag k) (tag j) e = ap tag (nat_is k j e)
same_is _ _ e = absurd cc

pub same_types : (r : Bool) (t w : TypeTree) → (IsTrue r ↔ (t ≡ w)) → r ≡ same_type t w
same_types r t w h = same_from_decides r (same_type t w) h (same_is t w, λ e. subst (λ (u : TypeTree). same_type t u ≡ true) e (same_self t))
