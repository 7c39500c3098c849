-- Zeros, one by one.
use Rattle.std.specs.Prelude.{◌≡◌, ℕ, zero, suc, pos, ◌+◌, List, [], ◌∷◌, ◌++◌, length}
use Rattle.std.proofs.Common.{refl, ap, ◌∙◌, append_assoc, length-append, arith, subst}
use Rattle.cx_term.specs.Forms.{Linear, constant_of}
use Rattle.cx_head.specs.Heads.{zeros}

last : (n : ℕ) → zeros n ++ constant_of (pos 0) ∷ [] ≡ zeros (suc n)
last zero = refl
last (suc n) = ap (λ (xs : List Linear). constant_of (pos 0) ∷ xs) (last n)

pub one_more : (values terms : List Linear) (n : ℕ) → terms ≡ values ++ zeros n → terms ++ constant_of (pos 0) ∷ [] ≡ values ++ zeros (n + 1)
one_more values terms n e =
    let s : suc n ≡ n + 1 = omega arith in
    let q : zeros n ++ constant_of (pos 0) ∷ [] ≡ zeros (n + 1) = subst (λ (k : ℕ). zeros n ++ constant_of (pos 0) ∷ [] ≡ zeros k) s (last n) in
    ap (λ (xs : List Linear). xs ++ constant_of (pos 0) ∷ []) e ∙ append_assoc values (zeros n) (constant_of (pos 0) ∷ []) ∙ ap (λ (xs : List Linear). values ++ xs) q

length-zeros : (n : ℕ) → length (zeros n) ≡ n
length-zeros zero = refl
length-zeros (suc n) = ap suc (length-zeros n)

pub length-values : (values : List Linear) (n : ℕ) → length (values ++ zeros n) ≡ length values + n
length-values values n = length-append values (zeros n) ∙ ap (λ (k : ℕ). length values + k) (length-zeros n)
