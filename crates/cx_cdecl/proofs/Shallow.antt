-- The lexemes up to the first bracket that opens the 101st level.
use Rattle.std.proofs.Common.{◌≡◌, ℕ, zero, suc, ◌+◌, ◌<◌, ◌≤◌, true, false, List, [], ◌∷◌, ◌++◌, length, take, drop, refl, ap, ◌∙◌, sym, subst, arith, add-one, append-nil, ◌-◌, length-drop}
use Rattle.std.specs.Prelude.{nat_le}
use Rattle.std.proofs.lemmas.Bool.Decides.{nat_tests}
use Rattle.std.proofs.Math.Seq.{take-length}
use Rattle.cx_cword.specs.declared.lexeme.Lexeme.{Lexeme}
use Rattle.cx_cdecl.specs.Derived.{open_after}
use Rattle.cx_cdecl.specs.Reading.{shallow_at}

is_low : (n : ℕ) → n ≤ 100 → nat_le n 100 ≡ true
is_low n h = grind (arith, nat_tests)

is_high : (n : ℕ) → 100 < n → nat_le n 100 ≡ false
is_high n h = grind (arith, nat_tests)

first_same : (x o : Lexeme) (xs rest : List Lexeme) → x ∷ xs ≡ o ∷ rest → x ≡ o
first_same x o xs rest e = cc

step : (os : List Lexeme) (i n : ℕ) (o : Lexeme) (rest : List Lexeme) → drop i os ≡ o ∷ rest → open_after o.kind n ≤ 100 → take (suc i) os ++ shallow_at (open_after o.kind n) (drop (suc i) os) ≡ take i os ++ shallow_at n (drop i os)
step [] zero n o rest e h = absurd cc
step [] (suc i) n o rest e h = absurd cc
step (x ∷ os) zero n o rest e h =
    let same : x ≡ o = first_same x o os rest e in
    let low : nat_le (open_after x.kind n) 100 ≡ true = is_low (open_after x.kind n) (subst (λ (y : Lexeme). open_after y.kind n ≤ 100) (sym same) h) in
    rw low (ap (λ (y : Lexeme). x ∷ shallow_at (open_after y.kind n) os) (sym same))
step (x ∷ os) (suc i) n o rest e h = ap (λ ys. x ∷ ys) (step os i n o rest e h)

pub shallow_step : (os : List Lexeme) (i n : ℕ) (o : Lexeme) (rest : List Lexeme) → drop i os ≡ o ∷ rest → open_after o.kind n ≤ 100 → take (i + 1) os ++ shallow_at (open_after o.kind n) (drop (i + 1) os) ≡ take i os ++ shallow_at n (drop i os)
shallow_step os i n o rest e h = rw add-one (step os i n o rest e h)

pub shallow_stop : (os : List Lexeme) (i n : ℕ) (o : Lexeme) (rest : List Lexeme) → drop i os ≡ o ∷ rest → 100 < open_after o.kind n → take i os ++ shallow_at n (drop i os) ≡ take i os
shallow_stop os i n o rest e h =
    let high : nat_le (open_after o.kind n) 100 ≡ false = is_high (open_after o.kind n) h in
    ap (λ (ys : List Lexeme). take i os ++ shallow_at n ys) e ∙ rw high (append-nil (take i os))

pub shallow_end : (os : List Lexeme) (i n : ℕ) → length os ≤ i → take i os ++ shallow_at n (drop i os) ≡ os
shallow_end [] zero n h = refl
shallow_end [] (suc i) n h = refl
shallow_end (x ∷ os) zero n h = absurd (omega arith)
shallow_end (x ∷ os) (suc i) n h = ap (λ ys. x ∷ ys) (shallow_end os i n (omega arith))

pub whole_rest : {A : Type 0} (os : List A) (i : ℕ) → take (length os - i) (drop i os) ≡ drop i os
whole_rest os i = ap (λ k. take k (drop i os)) (sym (length-drop i os)) ∙ take-length (drop i os)
