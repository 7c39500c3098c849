-- The fresh symbols but one.
use Rattle.std.specs.Prelude.{◌≡◌, ℕ, Bool, true, false, not, ◌&&◌, ◌||◌, ◌==◌, List, [], ◌∷◌, filter, Option, Some, None}
use Rattle.std.proofs.Common.{arith, refl, sym, ◌∙◌, cond, ap}
use Rattle.std.proofs.lemmas.Bool.Decides.{nat_tests}
use Rattle.cx_state.specs.Known.{is_one_of}
use Rattle.cx_query.specs.Pointing.{fresh_but}

and_false : (x : Bool) → x && false ≡ false
and_false true = refl
and_false false = refl

kept_by : (b p q x y : Bool) → (p ≡ true → b ≡ q) → y ≡ x && not q → cond b y (p || y) ≡ (p || x) && not q
kept_by true true q x y f h = h ∙ ap (λ z. x && not z) (sym (f refl)) ∙ and_false x ∙ ap not (f refl)
kept_by true false q x y f h = h
kept_by false true q x y f h = ap not (f refl)
kept_by false false q x y f h = h

one_by : (u s : ℕ) (us : List ℕ) (b : Bool) → is_one_of (cond (not b) (u ∷ us) us) s ≡ cond b (is_one_of us s) ((u == s) || is_one_of us s)
one_by u s us true = refl
one_by u s us false = refl

same_test : (u s o : ℕ) → (u == s) ≡ true → (u == o) ≡ (s == o)
same_test u s o e = let q : u ≡ s = grind (arith, nat_tests) in ap (λ x. x == o) q

-- one of them is one of the others, or the symbol
pub one-but : (ss : List ℕ) (s o : ℕ) → is_one_of (filter (λ t. not (t == o)) ss) s ≡ is_one_of ss s && not (s == o)
one-but [] s o = refl
one-but (u ∷ us) s o =
    one_by u s (filter (λ t. not (t == o)) us) (u == o) ∙ kept_by (u == o) (u == s) (s == o) (is_one_of us s) (is_one_of (filter (λ t. not (t == o)) us) s) (same_test u s o) (one-but us s o)

-- where the symbol is one of them
pub fresh-then : (own : Option ℕ) (ss : List ℕ) (s o : ℕ) (r : Bool) → own ≡ Some o → r ≡ is_one_of ss s → r ≡ true → not (s == o) ≡ is_one_of (fresh_but own ss) s
fresh-then None ss s o r q e t = absurd (cc)
fresh-then (Some x) ss s o r q e t =
    let y : x ≡ o = cc in
    sym (one-but ss s x ∙ ap (λ b. b && not (s == x)) (sym e ∙ t) ∙ ap (λ z. not (s == z)) y)

-- where it is none
pub fresh-else : (own : Option ℕ) (ss : List ℕ) (s o : ℕ) (r : Bool) → own ≡ Some o → r ≡ is_one_of ss s → r ≡ false → r ≡ is_one_of (fresh_but own ss) s
fresh-else None ss s o r q e t = absurd (cc)
fresh-else (Some x) ss s o r q e t = t ∙ sym (one-but ss s x ∙ ap (λ b. b && not (s == x)) (sym e ∙ t))
